use Rattle.std.proofs.Common.{◌≤◌, length, map, take}
use Rattle.ae_rewrite.specs.StProgramTree.{st_trees}
use Rattle.ae_results.specs.Results.{AreAllCosts, result_move}
use Rattle.ae_fuse.proofs.results.all_costs.Given as goal

abbrev pub invariant-loop-k : goal.invariant-loop-k
invariant-loop-k l = record {
  costs : AreAllCosts (take l.k (map (result_move (st_trees l.ins)) l.moves)) l.costs.items;
  within : l.k ≤ length l.moves;
}
