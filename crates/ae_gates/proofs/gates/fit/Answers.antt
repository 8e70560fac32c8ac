use Rattle.std.proofs.Common.{ℕ, ◌%◌, ◌^◌, subst}
use Rattle.ae_gates.specs.Cells.{IsWord}
use Rattle.ae_gates.proofs.Words.{fit_word}
use Rattle.ae_gates.proofs.gates.fit.Goals as goal

pub returns-then-own-width-clause-word : goal.returns-then-own-width-clause-word
returns-then-own-width-clause-word c = λ f p.
    subst (λ (w : ℕ). IsWord c.args.from c.args.nl.now.cells c.args.x.0 w (λ run t. f run t % 2 ^ w)) c.if-own-width.true (fit_word _ _ _ _ f p)

pub returns-clause-word : goal.returns-clause-word
returns-clause-word c = λ f p. c.in_ok-y.ensures.word f f p p
