use Rattle.std.proofs.Common.{◌≡◌, ◌≤◌, map, take}
use Rattle.ae_rewrite.specs.StProgramTree.{st_func_tree}
use Rattle.ae_fuse.specs.Moved.{own_move}
use Rattle.ae_results.specs.Results.{result_move}
use Rattle.ae_fuse.proofs.results.result_moves.Given as goal

abbrev pub invariant-loop-r : goal.invariant-loop-r
invariant-loop-r l = record {
  moves : map (result_move (st_func_tree l.s).ins) l.moves.items ≡ map (own_move (st_func_tree l.s) (map (λ w. w.items) l.labels)) (take l.r l.s.results.items);
  within : l.r ≤ l.count;
}
