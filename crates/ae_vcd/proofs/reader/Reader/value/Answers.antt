use Rattle.std.proofs.Common.{sym, ◌∙◌, refl}
use Rattle.ae_vcd.specs.Forms.{variables}
use Rattle.ae_vcd.proofs.Tables.{takes_known, takes_new}
use Rattle.ae_vcd.proofs.BodySteps.{value_declares, value_refused, value_taken}
use Rattle.ae_vcd.proofs.reader.Reader.value.Goals as goal

pub returns-in_default-clause-answer : goal.returns-in_default-clause-answer
returns-in_default-clause-answer c =
    λ s f. value_refused c.args.self.now s c.args.code.now c.args.value f c.requires.here
    (λ vs d. takes_new vs c.args.code.now c.args.value (c.in_default.ensures vs d))

pub returns-then-not-fits-clause-answer : goal.returns-then-not-fits-clause-answer
returns-then-not-fits-clause-answer c =
    λ s f. value_refused c.args.self.now s c.args.code.now c.args.value f c.requires.here
    (λ vs d. takes_known vs c.args.code.now c.args.value c.in-Some.slot.width (c.in-Some.ensures vs d).0 ∙ (sym c.fits.ensures ∙ c.if-not-fits.true))

pub returns-clause-answer : goal.returns-clause-answer
returns-clause-answer c =
    λ s f. value_taken c.args.self.now s c.args.code.now c.args.value c.in-Some.slot.number _ f c.requires.here
    (λ vs d. takes_known vs c.args.code.now c.args.value c.in-Some.slot.width (c.in-Some.ensures vs d).0 ∙ (sym c.fits.ensures ∙ c.if-not-fits.false))
    (c.in-Some.ensures (variables s.commands) (value_declares c.args.self.now s c.args.value f c.requires.here)).1 refl
