use Rattle.std.proofs.Common.{subst}
use Rattle.ae_assign.specs.Edges.{IsGuard}
use Rattle.ae_gates.proofs.Words.{same_word, if_bit}
use Rattle.ae_assign.proofs.statements.taken.Goals as goal

pub returns-in_ok-y-in-Some-clause-word : goal.returns-in_ok-y-in-Some-clause-word
returns-in_ok-y-in-Some-clause-word c = λ g f h reached left right.
    same_word _ _ (λ run t. if_bit (g run t) (f run t) (h run t))
    (c.in_ok-y-in-Some.ensures.word _ _ _ (subst (λ o. IsGuard c.args.from c.args.nl.now.cells o g) c.in-Some.is reached) left right)
