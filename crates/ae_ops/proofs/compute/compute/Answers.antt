-- Each operator by the cells that it is made of.
use Rattle.std.proofs.Common.{◌≡◌, arith, false, refl, subst}
use Rattle.ae_word.specs.WordTable.{is_signed}
use Rattle.ae_word.specs.declared.op.WordOp.TheVariants.{SLt, SMax, SMin}
use Rattle.ae_netlist.specs.Circuit.{IsNet}
use Rattle.ae_gates.proofs.Adding.{adds_most}
use Rattle.ae_netlist.proofs.Growing.{main_is}
use Rattle.ae_netlist.proofs.ReadAt.{operand_got}
use Rattle.ae_gates.proofs.Added.{result_at}
use Rattle.ae_ops.proofs.Computing.{cast_words, most_of, operation_of, pair_operands, sar_words, two_words}
use Rattle.ae_ops.proofs.compute.compute.Goals as goal

pub operate-requires-clause-operation : goal.operate-requires-clause-operation
operate-requires-clause-operation c =
    let plain : is_signed c.args.op ≡ false = grind (arith, c.in-Add.is) in
    rw c.result_width.ensures (operation_of _ _ _ c.args.width plain c.requires.range c.requires.operands)

pub less_signed-requires-clause-left : goal.less_signed-requires-clause-left
less_signed-requires-clause-left c = (pair_operands SLt (IsNet c.args.nl.now.cells) c.args.args c.args.width refl (rw c.in-SLt.is at c.requires.operands)).0

pub less_signed-requires-clause-right : goal.less_signed-requires-clause-right
less_signed-requires-clause-right c = (pair_operands SLt (IsNet c.args.nl.now.cells) c.args.args c.args.width refl (rw c.in-SLt.is at c.requires.operands)).1

pub returns-in-SLt-clause-adds : goal.returns-in-SLt-clause-adds
returns-in-SLt-clause-adds c = rw c.in-SLt.is (most_of _ _ c.less_signed.result 4 _ (omega arith) c.less_signed.ensures.adds)

pub returns-in-SLt-clause-net : goal.returns-in-SLt-clause-net
returns-in-SLt-clause-net c = rw c.in-SLt.is c.less_signed.ensures.net

pub returns-in-SLt-clause-words : goal.returns-in-SLt-clause-words
returns-in-SLt-clause-words c =
    rw c.in-SLt.is (two_words c.less_signed.result _ c.less_signed.new.nl.cells SLt c.args.width c.args.args _ _ (λ x y z u. refl) (operand_got c.args.args 0)
    (operand_got c.args.args 1) c.less_signed.ensures.words)

pub least_signed-requires-clause-left : goal.least_signed-requires-clause-left
least_signed-requires-clause-left c = (pair_operands SMin (IsNet c.args.nl.now.cells) c.args.args c.args.width refl (rw c.in-SMin.is at c.requires.operands)).0

pub least_signed-requires-clause-right : goal.least_signed-requires-clause-right
least_signed-requires-clause-right c = (pair_operands SMin (IsNet c.args.nl.now.cells) c.args.args c.args.width refl (rw c.in-SMin.is at c.requires.operands)).1

pub returns-in-SMin-clause-adds : goal.returns-in-SMin-clause-adds
returns-in-SMin-clause-adds c = rw c.in-SMin.is (most_of _ _ c.least_signed.result 5 _ (omega arith) c.least_signed.ensures.adds)

pub returns-in-SMin-clause-net : goal.returns-in-SMin-clause-net
returns-in-SMin-clause-net c = rw c.in-SMin.is c.least_signed.ensures.net

pub returns-in-SMin-clause-words : goal.returns-in-SMin-clause-words
returns-in-SMin-clause-words c =
    rw c.in-SMin.is (two_words c.least_signed.result _ c.least_signed.new.nl.cells SMin c.args.width c.args.args _ _ (λ x y z u. refl)
    (operand_got c.args.args 0)
    (operand_got c.args.args 1) c.least_signed.ensures.words)

pub greatest_signed-requires-clause-left : goal.greatest_signed-requires-clause-left
greatest_signed-requires-clause-left c =
    (pair_operands SMax (IsNet c.args.nl.now.cells) c.args.args c.args.width refl (rw c.in-SMax.is at c.requires.operands)).0

pub greatest_signed-requires-clause-right : goal.greatest_signed-requires-clause-right
greatest_signed-requires-clause-right c =
    (pair_operands SMax (IsNet c.args.nl.now.cells) c.args.args c.args.width refl (rw c.in-SMax.is at c.requires.operands)).1

pub returns-in-SMax-clause-adds : goal.returns-in-SMax-clause-adds
returns-in-SMax-clause-adds c = rw c.in-SMax.is (most_of _ _ c.greatest_signed.result 5 _ (omega arith) c.greatest_signed.ensures.adds)

pub returns-in-SMax-clause-net : goal.returns-in-SMax-clause-net
returns-in-SMax-clause-net c = rw c.in-SMax.is c.greatest_signed.ensures.net

pub returns-in-SMax-clause-words : goal.returns-in-SMax-clause-words
returns-in-SMax-clause-words c =
    rw c.in-SMax.is (two_words c.greatest_signed.result _ c.greatest_signed.new.nl.cells SMax c.args.width c.args.args _ _ (λ x y z u. refl)
    (operand_got c.args.args 0)
    (operand_got c.args.args 1) c.greatest_signed.ensures.words)

pub by_sign-requires-clause-net : goal.by_sign-requires-clause-net
by_sign-requires-clause-net c =
    subst (λ n. IsNet c.args.nl.now.cells n c.args.width) (operand_got c.args.args 0) (rw c.in-Sar.is at c.requires.operands).0

pub returns-in_ok-y-in-Sar-clause-adds : goal.returns-in_ok-y-in-Sar-clause-adds
returns-in_ok-y-in-Sar-clause-adds c = rw c.in-Sar.is (adds_most 8 (omega arith) c.in_ok-y-in-Sar.ensures.adds)

pub returns-in_ok-y-in-Sar-clause-net : goal.returns-in_ok-y-in-Sar-clause-net
returns-in_ok-y-in-Sar-clause-net c = rw c.in-Sar.is c.in_ok-y-in-Sar.ensures.net

pub by_sign-requires-in-SCast-clause-net : goal.by_sign-requires-in-SCast-clause-net
by_sign-requires-in-SCast-clause-net c =
    subst (λ n. IsNet c.args.nl.now.cells n c.args.width) (operand_got c.args.args 0) (rw c.in-SCast.is at c.requires.operands).0

pub returns-in_ok-y-in-SCast-clause-adds : goal.returns-in_ok-y-in-SCast-clause-adds
returns-in_ok-y-in-SCast-clause-adds c = rw c.in-SCast.is (adds_most 8 (omega arith) c.in_ok-y-in-SCast.ensures.adds)

pub returns-in_ok-y-in-SCast-clause-net : goal.returns-in_ok-y-in-SCast-clause-net
returns-in_ok-y-in-SCast-clause-net c = rw c.in-SCast.is c.in_ok-y-in-SCast.ensures.net

pub returns-in_ok-y-in-Sar-clause-words : goal.returns-in_ok-y-in-Sar-clause-words
returns-in_ok-y-in-Sar-clause-words c =
    sar_words _ _ c.in_ok-y-in-Sar.y _ c.args.args c.in-Sar.k c.args.width _ c.in-Sar.is c.in_ok-y-in-Sar.ensures.adds.grows (operand_got c.args.args 0)
    (subst (λ n. IsNet c.args.nl.now.cells n c.args.width) (operand_got c.args.args 0) (rw c.in-Sar.is at c.requires.operands).0)
    c.in_ok-y-in-Sar.ensures.words

pub returns-in_ok-y-in-SCast-clause-words : goal.returns-in_ok-y-in-SCast-clause-words
returns-in_ok-y-in-SCast-clause-words c =
    cast_words _ _ c.in_ok-y-in-SCast.y _ c.args.args c.in-SCast.v c.args.width _ c.in-SCast.is c.in_ok-y-in-SCast.ensures.adds.grows
    (operand_got c.args.args 0)
    (subst (λ n. IsNet c.args.nl.now.cells n c.args.width) (operand_got c.args.args 0) (rw c.in-SCast.is at c.requires.operands).0)
    c.in_ok-y-in-SCast.ensures.words

pub returns-in-Add-clause-adds : goal.returns-in-Add-clause-adds
returns-in-Add-clause-adds c = most_of _ _ c.operate.result 1 _ (omega arith) c.operate.ensures.adds

pub returns-in-Add-clause-words : goal.returns-in-Add-clause-words
returns-in-Add-clause-words c =
    result_at c.operate.new.nl.cells c.operate.result c.args.nl.now.cells c.args.op c.args.args c.args.width
    (main_is c.args.op (IsNet c.args.nl.now.cells) c.args.args c.args.width c.requires.operands) c.operate.ensures.words
