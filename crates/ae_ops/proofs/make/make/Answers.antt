-- A square, a sum, and any other result.
use Rattle.std.proofs.Common.{arith, refl, sym, ◌∙◌}
use Rattle.std.proofs.lemmas.Bool.{eqb-true}
use Rattle.ae_word.specs.declared.op.WordOp.TheVariants.{Add, Mul}
use Rattle.ae_netlist.specs.Circuit.{IsNet}
use Rattle.ae_gates.proofs.Adding.{adds_most}
use Rattle.ae_netlist.proofs.ReadAt.{operand_got}
use Rattle.ae_ops.proofs.Computing.{pair_operands}
use Rattle.ae_ops.proofs.Squares.{at_once, square_words, sum_words}
use Rattle.ae_ops.proofs.make.make.Goals as goal

pub square-requires-clause-net : goal.square-requires-clause-net
square-requires-clause-net c = (pair_operands Mul (IsNet c.args.nl.now.cells) c.args.args c.args.width refl (rw c.in-Mul.is at c.requires.operands)).0

pub returns-in_ok-net-in-Mul-clause-adds : goal.returns-in_ok-net-in-Mul-clause-adds
returns-in_ok-net-in-Mul-clause-adds c = rw c.in-Mul.is c.in_ok-net-in-Mul.ensures.adds

pub returns-in_ok-net-in-Mul-clause-net : goal.returns-in_ok-net-in-Mul-clause-net
returns-in_ok-net-in-Mul-clause-net c = rw c.in-Mul.is c.in_ok-net-in-Mul.ensures.net

pub returns-in_ok-net-in-Mul-clause-late : goal.returns-in_ok-net-in-Mul-clause-late
returns-in_ok-net-in-Mul-clause-late c = rw c.in-Mul.is (omega arith)

pub returns-in_ok-net-in-Mul-clause-words : goal.returns-in_ok-net-in-Mul-clause-words
returns-in_ok-net-in-Mul-clause-words c =
    rw c.in-Mul.is (square_words _ _ _ c.args.width c.args.args (operand_got c.args.args 0)
    (operand_got c.args.args 1 ∙ sym (eqb-true _ _ (sym c.if-eq.ensures))) c.in_ok-net-in-Mul.ensures.words)

pub sum_of-requires-clause-left : goal.sum_of-requires-clause-left
sum_of-requires-clause-left c = (pair_operands Add (IsNet c.args.nl.now.cells) c.args.args c.args.width refl (rw c.in-Add.is at c.requires.operands)).0

pub sum_of-requires-clause-right : goal.sum_of-requires-clause-right
sum_of-requires-clause-right c = (pair_operands Add (IsNet c.args.nl.now.cells) c.args.args c.args.width refl (rw c.in-Add.is at c.requires.operands)).1

pub returns-in_ok-net-in-Add-clause-adds : goal.returns-in_ok-net-in-Add-clause-adds
returns-in_ok-net-in-Add-clause-adds c = rw c.in-Add.is (adds_most 9 (omega arith) c.in_ok-net-in-Add.ensures.adds)

pub returns-in_ok-net-in-Add-clause-net : goal.returns-in_ok-net-in-Add-clause-net
returns-in_ok-net-in-Add-clause-net c = rw c.in-Add.is c.in_ok-net-in-Add.ensures.net

pub returns-in_ok-net-in-Add-clause-words : goal.returns-in_ok-net-in-Add-clause-words
returns-in_ok-net-in-Add-clause-words c = rw c.in-Add.is (sum_words _ _ c.args.width c.args.args _ _ (operand_got c.args.args 0)
    (operand_got c.args.args 1) c.in_ok-net-in-Add.ensures.words)

pub returns-in_ok-net-in-Sub-clause-adds : goal.returns-in_ok-net-in-Sub-clause-adds
returns-in_ok-net-in-Sub-clause-adds c = adds_most 9 (omega arith) c.in_ok-net-in-Sub.ensures.adds

pub returns-in_ok-net-in-Sub-clause-net : goal.returns-in_ok-net-in-Sub-clause-net
returns-in_ok-net-in-Sub-clause-net c = c.in_ok-net-in-Sub.ensures.net

pub returns-in_ok-net-in-Sub-clause-words : goal.returns-in_ok-net-in-Sub-clause-words
returns-in_ok-net-in-Sub-clause-words c =
    at_once c.args.nl.now c.compute.new.nl c.in_ok-net-in-Sub.net c.args.op c.args.width c.args.args c.in_ok-net-in-Sub.ensures.words
