use Rattle.std.proofs.Common.{◌≡◌, ◌∙◌, ◌+◌, drop, map, sym}
use Rattle.ae_sttype.specs.StTree.{st_tree, time}
use Rattle.ae_sttype.specs.Size.{IsInSize}
use Rattle.ae_play.specs.Lines.{stands}
use Rattle.ae_play.proofs.Layouts.{next_tree, tree_holds, tree_there}
use Rattle.ae_play.proofs.Summing.{one_more, one_not}
use Rattle.ae_play.proofs.sums.all_stand.Goals as goal

pub stands-requires : goal.stands-requires
stands-requires c =
    (tree_holds (λ s. IsInSize s × (time s ≡ c.args.slowdown)) c.args.outs.now c.loop-s.s-index c.s-item.result
    (tree_there c.args.outs.now c.loop-s.s-index c.s-item.result c.loop-s-test.true c.s-item.is) c.requires).0

pub returns-then-not-stands : goal.returns-then-not-stands
returns-then-not-stands c =
    let ss = map st_tree c.args.outs.now in
    one_not (stands c.args.slowdown c.args.latency c.args.clock) (st_tree c.s-item.result) (drop c.loop-s.s-index ss) (drop (c.loop-s.s-index + 1) ss) ss
    (next_tree c.args.outs.now c.loop-s.s-index c.s-item.result (tree_there c.args.outs.now c.loop-s.s-index c.s-item.result c.loop-s-test.true c.s-item.is))
    (sym c.stands.ensures ∙ c.if-not-stands.true) c.loop-s.invariant

pub loop-s-preserved : goal.loop-s-preserved
loop-s-preserved c =
    let ss = map st_tree c.args.outs.now in
    one_more (stands c.args.slowdown c.args.latency c.args.clock) (st_tree c.s-item.result) (drop c.loop-s.s-index ss) (drop (c.loop-s.s-index + 1) ss) ss
    (next_tree c.args.outs.now c.loop-s.s-index c.s-item.result (tree_there c.args.outs.now c.loop-s.s-index c.s-item.result c.loop-s-test.true c.s-item.is))
    (sym c.stands.ensures ∙ c.if-not-stands.false) c.loop-s.invariant
