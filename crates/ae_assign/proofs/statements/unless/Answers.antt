use Rattle.std.proofs.Common.{not}
use Rattle.ae_gates.proofs.Words.{same_word}
use Rattle.ae_express.proofs.CompareLaws.{not_bit}
use Rattle.ae_assign.proofs.EdgeLaws.{guard_grows}
use Rattle.ae_assign.proofs.statements.unless.Goals as goal

pub returns-clause-word : goal.returns-clause-word
returns-clause-word c = λ g b reached on.
    c.in_ok-y.ensures.word g (λ run t. not (b run t)) (guard_grows c.args.from c.args.guard g c.in_ok-flipped.ensures.adds.grows reached)
    (same_word _ _ (λ run t. not_bit (b run t)) (c.in_ok-flipped.ensures.word _ _ on on))
