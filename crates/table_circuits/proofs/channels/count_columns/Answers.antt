use Rattle.std.proofs.Common.{arith}
use Rattle.table_circuits.proofs.Layouts.{counted_next, sized_at}
use Rattle.table_circuits.proofs.channels.count_columns.Goals as goal

pub lanes-requires : goal.lanes-requires
lanes-requires c = sized_at c.args.layouts.now c.args.slowdown c.loop-k.k c.index-layouts-k.result c.requires c.loop-k-test.true c.index-layouts-k.is

pub element_words-requires : goal.element_words-requires
element_words-requires c = sized_at c.args.layouts.now c.args.slowdown c.loop-k.k c.index-layouts-k.result c.requires c.loop-k-test.true c.index-layouts-k.is

pub loop-k-preserved : goal.loop-k-preserved
loop-k-preserved c =
    let next = counted_next c.args.layouts.now c.loop-k.k c.loop-k.count c.lanes.result c.element_words.result c.index-layouts-k.result c.loop-k-test.true
    c.index-layouts-k.is c.lanes.ensures c.element_words.ensures c.loop-k.invariant in
    omega (arith, next, c.in-Some.ensures, c.in-Some-checked_add.ensures)
