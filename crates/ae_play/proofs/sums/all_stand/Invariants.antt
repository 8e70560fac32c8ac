use Rattle.std.proofs.Common.{◌≡◌, drop, map}
use Rattle.std.specs.List.{list_all}
use Rattle.ae_sttype.specs.StTree.{st_tree}
use Rattle.ae_play.specs.Lines.{stands}
use Rattle.ae_play.proofs.sums.all_stand.Given as goal

abbrev pub invariant-loop-s : goal.invariant-loop-s
invariant-loop-s l =
    list_all (stands l.slowdown l.latency l.clock) (drop l.s-index (map st_tree l.outs)) ≡ list_all (stands l.slowdown l.latency l.clock) (map st_tree l.outs)
