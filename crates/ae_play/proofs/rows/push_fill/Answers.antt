use Rattle.std.proofs.Common.{◌+◌, drop, map}
use Rattle.ae_sttype.specs.StTree.{st_tree}
use Rattle.ae_sttype.specs.Size.{IsInSize}
use Rattle.ae_play.proofs.Layouts.{fill_more, next_tree, tree_holds, tree_there}
use Rattle.ae_play.proofs.rows.push_fill.Goals as goal

pub push_layout-requires-clause-sized : goal.push_layout-requires-clause-sized
push_layout-requires-clause-sized c =
    tree_holds IsInSize c.args.ins.now c.loop-s.s-index c.s-item.result
    (tree_there c.args.ins.now c.loop-s.s-index c.s-item.result c.loop-s-test.true c.s-item.is) c.requires.sized

pub loop-s-preserved : goal.loop-s-preserved
loop-s-preserved c =
    let ss = map st_tree c.args.ins.now in
    fill_more c.args.fill (st_tree c.s-item.result) (drop c.loop-s.s-index ss) (drop (c.loop-s.s-index + 1) ss) c.loop-s.row.items c.push_layout.new.row.items _
    (next_tree c.args.ins.now c.loop-s.s-index c.s-item.result (tree_there c.args.ins.now c.loop-s.s-index c.s-item.result c.loop-s-test.true c.s-item.is))
    c.in_ok-push_layout.ensures c.loop-s.invariant
