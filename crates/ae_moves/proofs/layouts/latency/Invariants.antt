use Rattle.std.proofs.Common.{◌≡◌, ◌≤◌, length, map}
use Rattle.std.specs.List.{range_with_len}
use Rattle.ae_sttype.specs.StTree.{st_tree}
use Rattle.ae_sttype.specs.Moves.{latency_of_trips, trip_number}
use Rattle.ae_moves.specs.Trees.{origin_tree}
use Rattle.ae_moves.proofs.layouts.latency.Given as goal

abbrev pub invariant-loop-o : goal.invariant-loop-o
invariant-loop-o l = record {
  within : l.o ≤ length l.source;
  most : l.most ≡ latency_of_trips (map (trip_number (map st_tree l.ins) (st_tree l.out) (map origin_tree l.source)) (range_with_len 0 l.o));
}
