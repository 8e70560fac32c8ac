use Rattle.std.proofs.Common.{◌≡◌, ◌≤◌, length, map}
use Rattle.std.specs.List.{range_with_len}
use Rattle.ae_moves.specs.Origins.{move_latency}
use Rattle.ae_rewrite.specs.StProgramTree.{st_func_tree}
use Rattle.ae_fuse.specs.Moved.{own_move}
use Rattle.ae_fuse.proofs.results.item_arrivals.Given as goal

abbrev pub invariant-loop-i : goal.invariant-loop-i
invariant-loop-i l = record {
  arrivals : l.arrivals.items ≡ map (λ i. move_latency (own_move (st_func_tree l.s) (map (λ w. w.items) l.labels) i)) (range_with_len 0 l.i);
  within : l.i ≤ length l.labels;
}
