use Rattle.std.proofs.Common.{set, sym, ap, ◌∙◌}
use Rattle.std.proofs.lemmas.Bool.{eq-eqb, ne_eqb}
use Rattle.ae_vcd.specs.Forms.{variables}
use Rattle.ae_vcd.proofs.Tables.{bit_known, bit_new}
use Rattle.ae_vcd.proofs.BodySteps.{bit_refused, bit_taken, bit_untimed, in_body}
use Rattle.ae_vcd.proofs.reader.Reader.bit.Goals as goal

pub returns-then-not-is_timed-clause-answer : goal.returns-then-not-is_timed-clause-answer
returns-then-not-is_timed-clause-answer c =
    λ s f. bit_untimed c.args.self.now s c.args.bit c.args.code.now f c.requires.here c.requires.bit (sym c.is_timed.ensures ∙ c.if-not-is_timed.true)

pub returns-in_default-clause-answer : goal.returns-in_default-clause-answer
returns-in_default-clause-answer c =
    λ s f. bit_refused c.args.self.now s c.args.bit c.args.code.now f c.requires.here c.requires.bit
    (λ vs d. bit_new vs c.args.code.now (c.in_default.ensures vs d))

pub returns-then-slot-ne1-clause-answer : goal.returns-then-slot-ne1-clause-answer
returns-then-slot-ne1-clause-answer c =
    λ s f. bit_refused c.args.self.now s c.args.bit c.args.code.now f c.requires.here c.requires.bit
    (λ vs d. bit_known vs c.args.code.now c.in-Some.slot.width (c.in-Some.ensures vs d).0 ∙ ne_eqb c.in-Some.slot.width 1 c.if-slot-ne1.true)

pub returns-clause-answer : goal.returns-clause-answer
returns-clause-answer c =
    λ s f. bit_taken c.args.self.now s c.args.bit c.args.code.now c.in-Some.slot.number _ f c.requires.here c.requires.bit
    (sym c.is_timed.ensures ∙ c.if-not-is_timed.false) (λ vs d. bit_known vs c.args.code.now c.in-Some.slot.width (c.in-Some.ensures vs d).0 ∙
    eq-eqb c.in-Some.slot.width 1 c.if-slot-ne1.false) (c.in-Some.ensures (variables s.commands) (in_body c.args.self.now s f c.requires.here).declares).1
    (ap (set c.args.self.now.recorded.latest.items c.in-Some.slot.number) c.word_of_bit.ensures)
