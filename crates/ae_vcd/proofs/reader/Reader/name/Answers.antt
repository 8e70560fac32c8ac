use Rattle.std.proofs.Common.{sym, ◌∙◌}
use Rattle.ae_vcd.proofs.Steps.{name_refused, name_taken}
use Rattle.ae_vcd.proofs.reader.Reader.name.Goals as goal

pub returns-then-not-is_name-clause-answer : goal.returns-then-not-is_name-clause-answer
returns-then-not-is_name-clause-answer c =
    λ s f. name_refused c.args.self.now s c.args.word.now c.args.width f c.requires (sym c.is_name.ensures ∙ c.if-not-is_name.true)

pub returns-clause-answer : goal.returns-clause-answer
returns-clause-answer c =
    λ s f. name_taken c.args.self.now s c.args.word.now c.args.width c.add.new.self c.deref.result.now c.deref.ensures.value f c.requires
    (sym c.is_name.ensures ∙ c.if-not-is_name.false) c.in_ok-add.ensures
