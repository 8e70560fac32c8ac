use Rattle.std.proofs.Common.{sym, ◌∙◌}
use Rattle.ae_vcd.proofs.BodySteps.{binary_large, binary_narrow, binary_taken, binary_untimed}
use Rattle.ae_vcd.proofs.reader.Reader.binary.Goals as goal

pub returns-then-not-is_timed-clause-answer : goal.returns-then-not-is_timed-clause-answer
returns-then-not-is_timed-clause-answer c =
    λ s f. binary_untimed c.args.self.now s c.args.letter c.args.digits.now f c.requires.here c.requires.letter
    (sym c.is_timed.ensures ∙ c.if-not-is_timed.true)

pub returns-in-Some-clause-answer : goal.returns-in-Some-clause-answer
returns-in-Some-clause-answer c =
    λ s f. binary_taken c.args.self.now s c.args.letter c.args.digits.now c.in-Some.value f c.requires.here c.requires.letter
    (sym c.is_timed.ensures ∙ c.if-not-is_timed.false) c.in-Some.ensures.0 c.in-Some.ensures.1 (sym c.fits.ensures ∙ c.if-fits.true)

pub returns-in_default-clause-answer : goal.returns-in_default-clause-answer
returns-in_default-clause-answer c =
    λ s f. binary_narrow c.args.self.now s c.args.letter c.args.digits.now c.in-Some.value f c.requires.here c.requires.letter c.in-Some.ensures.1
    (sym c.fits.ensures ∙ c.if-fits.false)

pub returns-in_default-2-clause-answer : goal.returns-in_default-2-clause-answer
returns-in_default-2-clause-answer c =
    λ s f. binary_large c.args.self.now s c.args.letter c.args.digits.now f c.requires.here c.requires.letter c.in_default.ensures
