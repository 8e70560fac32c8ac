use Rattle.std.proofs.Common.{◌≡◌, ◌++◌, drop, map}
use Rattle.std.specs.Prelude.{string_bytes}
use Rattle.ae_sttype.specs.StTree.{st_tree}
use Rattle.ae_play.specs.Lines.{mark}
use Rattle.ae_play.proofs.clocks.write_marks.Given as goal

abbrev pub invariant-loop-s : goal.invariant-loop-s
invariant-loop-s l =
    string_bytes l.out ++ map (mark l.slowdown l.latency l.clock) (drop l.s-index (map st_tree l.outs))
    ≡ string_bytes l.fn.out ++ map (mark l.slowdown l.latency l.clock) (map st_tree l.outs)
