use Rattle.std.proofs.Common.{◌≡◌, ◌≤◌, ◌*◌, sum_by}
use Rattle.std.specs.List.{range_with_len}
use Rattle.ae_moves.specs.Trees.{trip_trees}
use Rattle.ae_moves.specs.Rings.{column_mems}
use Rattle.ae_moves.proofs.mems.all_mems.Given as goal

abbrev pub invariant-loop-q : goal.invariant-loop-q
invariant-loop-q l = record {
  is : l.sum ≡ sum_by (λ q. column_mems l.period l.d q (trip_trees l.trips)) (range_with_len 0 l.q);
  small : l.sum ≤ l.q * 1048577;
}
