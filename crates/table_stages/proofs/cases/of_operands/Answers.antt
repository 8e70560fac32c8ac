use Rattle.std.proofs.Common.{◌≡◌, arith}
use Rattle.ae_word.specs.WordTable.{arity_of}
use Rattle.table_stages.proofs.Operands.{arity_some, two_bundles}
use Rattle.table_stages.proofs.Sizes.{word_small}
use Rattle.table_stages.proofs.cases.of_operands.Goals as goal

pub run-requires-2-clause-bundles : goal.run-requires-2-clause-bundles
run-requires-2-clause-bundles c =
    let two : arity_of c.args.op ≡ 2 = omega (arith, c.requires.few, arity_some c.args.op, c.arity.ensures, c.if-arity-eq1.false) in
    rw c.new-stage.ensures
    (two_bundles _ c.args.op c.args.width c.args.pair.left c.args.pair.right _ _ two c.in_ok-left.ensures.ok c.in_ok-right.ensures.ok c.requires.left
    c.requires.right)

pub run-requires-clause-room : goal.run-requires-clause-room
run-requires-clause-room c = rw c.new-stage.ensures (omega (arith, c.requires.room, word_small c.args.op))

pub run-requires-2-clause-room : goal.run-requires-2-clause-room
run-requires-2-clause-room c = rw c.new-stage.ensures (omega (arith, c.requires.room, word_small c.args.op))
