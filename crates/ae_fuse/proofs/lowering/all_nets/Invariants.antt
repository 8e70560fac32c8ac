use Rattle.std.proofs.Common.{◌≤◌, length, map, sum_by, take}
use Rattle.ae_clocked.specs.Phases.{Belongs, KeepsCounters}
use Rattle.ae_rewrite.specs.StProgramTree.{st_trees}
use Rattle.ae_tidy.specs.Places.{AreMarks}
use Rattle.ae_lower.specs.Growth.{AddsMulsAndMemories, GrowsBy}
use Rattle.ae_fuse.specs.Costing.{result_load, result_mems}
use Rattle.ae_results.specs.Results.{result_move}
use Rattle.ae_fuse.specs.Lowered.{AreLateResults}
use Rattle.ae_fuse.proofs.lowering.all_nets.Given as goal

abbrev pub invariant-loop-k : goal.invariant-loop-k
invariant-loop-k l = record {
  within : l.k ≤ length l.results;
  belongs : Belongs l.clocks l.nl.cells;
  keeps : KeepsCounters l.fn.clocks l.clocks;
  grows : GrowsBy l.fn.nl l.nl (sum_by (result_load l.whole) (take l.k (map (result_move (st_trees l.ins)) l.results)));
  adds : AddsMulsAndMemories l.fn.nl l.nl 0 (sum_by (result_mems l.whole) (take l.k (map (result_move (st_trees l.ins)) l.results)));
  moved : AreLateResults l.nl.cells l.fn.clocks.rst l.whole (map (result_move (st_trees l.ins)) l.results) l.k l.args l.bundles.items;
  marks : AreMarks (length l.nl.cells) l.k l.marks.items;
}
