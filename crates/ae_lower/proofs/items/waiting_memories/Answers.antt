-- Item after item.
use Rattle.std.proofs.Common.{◌≤◌, arith}
use Rattle.ae_sttype.specs.Moves.{columns_of}
use Rattle.ae_rewrite.specs.StProgramTree.{st_func_tree}
use Rattle.ae_rewrite.specs.Sound.{item_layout, item_layouts}
use Rattle.ae_lower.proofs.Waiting.{next_most}
use Rattle.ae_lower.proofs.items.waiting_memories.Goals as goal

pub layout-ty-requires : goal.layout-ty-requires
layout-ty-requires c = omega (arith, c.loop-i-test.true, c.requires.long)

pub columns-requires : goal.columns-requires
columns-requires c = rw c.layout-ty.ensures (c.requires.sizes c.loop-i.i (omega (arith, c.loop-i-test.true)))

pub loop-i-preserved : goal.loop-i-preserved
loop-i-preserved c =
    let fits : c.columns.result ≤ columns_of (item_layout (item_layouts (st_func_tree c.args.s.now)) c.loop-i.i) = rw (← c.layout-ty.ensures)
    c.columns.ensures in
    next_most (item_layouts (st_func_tree c.args.s.now)) c.args.chains.now c.loop-i.i c.loop-i.most c.with_each-most.result c.columns.result c.rings.result
    fits c.rings.ensures c.loop-i.invariant c.with_each-most.ensures
