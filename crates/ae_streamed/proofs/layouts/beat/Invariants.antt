use Rattle.std.proofs.Common.{map, take}
use Rattle.ae_sttype.specs.StTree.{st_tree}
use Rattle.ae_clocked.specs.Phases.{phase_of}
use Rattle.ae_gates.specs.Cells.{Adds}
use Rattle.ae_stream.specs.Streams.{is_beat}
use Rattle.ae_streamed.specs.Beats.{GainsBit}
use Rattle.ae_streamed.specs.Count.{any_beat_cells}
use Rattle.ae_streamed.proofs.layouts.beat.Given as goal

abbrev pub invariant-loop-k : goal.invariant-loop-k
invariant-loop-k l = record {
  gains : GainsBit l.fn.nl l.nl l.fn.clocks l.clocks l.any.0 (λ c. is_beat (map st_tree (take l.k l.layouts)) (phase_of l.slowdown l.offset c));
  adds : Adds l.fn.nl l.nl (any_beat_cells (map st_tree (take l.k l.layouts))) 0;
}
