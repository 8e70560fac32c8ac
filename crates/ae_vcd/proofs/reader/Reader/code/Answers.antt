use Rattle.std.proofs.Common.{List, ℕ, ◌++◌, sym, ap, ◌∙◌}
use Rattle.ae_vcd.proofs.Steps.{code_contradicted, code_refused, code_taken}
use Rattle.ae_vcd.proofs.reader.Reader.code.Goals as goal

pub returns-then-not-is_code-clause-answer : goal.returns-then-not-is_code-clause-answer
returns-then-not-is_code-clause-answer c =
    λ s f. code_refused c.args.self.now s c.args.word.now c.args.width f c.requires.here (sym c.is_code.ensures ∙ c.if-not-is_code.true)

pub returns-then-not-agrees-clause-answer : goal.returns-then-not-agrees-clause-answer
returns-then-not-agrees-clause-answer c =
    λ s f. code_contradicted c.args.self.now s c.args.word.now c.args.width f c.requires.here (sym c.is_code.ensures ∙ c.if-not-is_code.false)
    (λ vs d. sym c.if-not-agrees.true ∙ c.agrees.ensures vs d)

pub returns-clause-answer : goal.returns-clause-answer
returns-clause-answer c =
    λ s f. code_taken c.args.self.now s c.args.word.now c.args.width c.extend_from_slice.new.self f c.requires.here
    (sym c.is_code.ensures ∙ c.if-not-is_code.false) (λ vs d. sym c.if-not-agrees.false ∙ c.agrees.ensures vs d)
    (c.in_ok-extend_from_slice.ensures.items ∙ ap (λ (l : List ℕ). l ++ c.args.word.now) c.clear.ensures.items)
