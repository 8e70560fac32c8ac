use Rattle.std.proofs.Common.{◌≡◌, ℕ, ◌+◌, ◌<◌, ◌≤◌, length, map, get_or}
use Rattle.std.specs.List.{range_with_len}
use Rattle.ae_moves.specs.Origins.{move_latency}
use Rattle.ae_rewrite.specs.StProgramTree.{st_func_tree}
use Rattle.ae_flow.specs.Flow.{words_at}
use Rattle.ae_fuse.specs.Moved.{own_labels, own_move}
use Rattle.ae_fuse.proofs.tracing.traced.Given as goal

abbrev pub invariant-loop-j : goal.invariant-loop-j
invariant-loop-j l = record {
  many : length l.labels.items ≡ length l.s.ins.items + l.j;
  live : (a : ℕ) → l.j < get_or l.last.items a 0 → a < length l.labels.items
      → words_at (map (λ w. w.items) l.labels.items) a ≡ words_at (own_labels (st_func_tree l.s)) a;
  arrivals : l.arrivals.items ≡ map (λ i. move_latency (own_move (st_func_tree l.s) (own_labels (st_func_tree l.s)) i))
      (range_with_len 0 (length l.s.ins.items + l.j));
  within : l.j ≤ length l.s.nodes.items;
}
