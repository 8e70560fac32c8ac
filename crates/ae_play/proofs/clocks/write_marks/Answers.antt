use Rattle.std.proofs.Common.{◌≡◌, ◌+◌, drop, map}
use Rattle.std.specs.Prelude.{string_bytes}
use Rattle.ae_sttype.specs.StTree.{st_tree, time}
use Rattle.ae_sttype.specs.Size.{IsInSize}
use Rattle.ae_play.specs.Lines.{mark}
use Rattle.ae_play.proofs.Layouts.{next_tree, tree_holds, tree_there}
use Rattle.ae_play.proofs.WordLines.{marks_more}
use Rattle.ae_play.proofs.clocks.write_marks.Goals as goal

pub mark-requires : goal.mark-requires
mark-requires c =
    (tree_holds (λ s. IsInSize s × (time s ≡ c.args.slowdown)) c.args.outs.now c.loop-s.s-index c.s-item.result
    (tree_there c.args.outs.now c.loop-s.s-index c.s-item.result c.loop-s-test.true c.s-item.is) c.requires).0

pub loop-s-preserved : goal.loop-s-preserved
loop-s-preserved c =
    let ss = map st_tree c.args.outs.now in
    marks_more (mark c.args.slowdown c.args.latency c.args.clock) (st_tree c.s-item.result) (drop c.loop-s.s-index ss)
    (drop (c.loop-s.s-index + 1) ss) c.mark.result.now
    (string_bytes c.loop-s.out) (string_bytes c.push_str.new.self) _
    (next_tree c.args.outs.now c.loop-s.s-index c.s-item.result
    (tree_there c.args.outs.now c.loop-s.s-index c.s-item.result c.loop-s-test.true c.s-item.is))
    c.mark.ensures c.in_ok-push_str.ensures.bytes c.loop-s.invariant
