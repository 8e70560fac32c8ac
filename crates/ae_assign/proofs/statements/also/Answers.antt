use Rattle.std.proofs.Common.{subst}
use Rattle.ae_assign.specs.Edges.{IsGuard}
use Rattle.ae_gates.proofs.Words.{same_word}
use Rattle.ae_assign.proofs.EdgeLaws.{and_bit}
use Rattle.ae_assign.proofs.statements.also.Goals as goal

pub returns-in_ok-y-in-Some-clause-word : goal.returns-in_ok-y-in-Some-clause-word
returns-in_ok-y-in-Some-clause-word c = λ g b reached on.
    same_word _ _ (λ run t. and_bit (g run t) (b run t))
    (c.in_ok-y-in-Some.ensures.word _ _ (subst (λ o. IsGuard c.args.from c.args.nl.now.cells o g) c.in-Some.is reached) on)
