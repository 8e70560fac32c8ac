use Rattle.std.proofs.Common.{◌==◌}
use Rattle.ae_order.proofs.Answered.{ok_map}
use Rattle.ae_gates.proofs.Words.{same_word}
use Rattle.ae_express.proofs.CompareLaws.{not_bit, at_least}
use Rattle.ae_express.proofs.forms.compare.Goals as goal

pub returns-in-Differs-clause-word : goal.returns-in-Differs-clause-word
returns-in-Differs-clause-word c =
    rw c.in-Differs.is (ok_map c.opposed.result (λ y h f g p q. same_word _ _ (λ run t. not_bit (f run t == g run t)) (h f g p q)) c.opposed.ensures.word)

pub returns-in-AtLeast-clause-word : goal.returns-in-AtLeast-clause-word
returns-in-AtLeast-clause-word c =
    rw c.in-AtLeast.is (ok_map c.opposed-in-AtLeast.result
    (λ y h f g p q. same_word _ _ (λ run t. at_least (f run t) (g run t)) (h f g p q)) c.opposed-in-AtLeast.ensures.word)

pub returns-in-Greater-clause-word : goal.returns-in-Greater-clause-word
returns-in-Greater-clause-word c = rw c.in-Greater.is (ok_map c.compared-in-Greater.result (λ y h f g p q. h g f q p) c.compared-in-Greater.ensures.word)

pub returns-in-AtMost-clause-word : goal.returns-in-AtMost-clause-word
returns-in-AtMost-clause-word c =
    rw c.in-AtMost.is (ok_map c.opposed-in-AtMost.result (λ y h f g p q. same_word _ _ (λ run t. at_least (g run t) (f run t)) (h g f q p))
    c.opposed-in-AtMost.ensures.word)

pub returns-in-Equal-clause-word : goal.returns-in-Equal-clause-word
returns-in-Equal-clause-word c = rw c.in-Equal.is c.compared.ensures.word

pub returns-in-Less-clause-word : goal.returns-in-Less-clause-word
returns-in-Less-clause-word c = rw c.in-Less.is c.compared-in-Less.ensures.word
