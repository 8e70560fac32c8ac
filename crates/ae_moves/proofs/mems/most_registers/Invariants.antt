use Rattle.std.proofs.Common.{◌≡◌, ◌≤◌, ◌*◌}
use Rattle.ae_moves.specs.Trees.{trip_trees}
use Rattle.ae_moves.specs.Rings.{registers_of}
use Rattle.ae_moves.proofs.mems.most_registers.Given as goal

abbrev pub invariant-loop-q : goal.invariant-loop-q
invariant-loop-q l = record {
  is : l.sum ≡ registers_of l.period l.d l.q (trip_trees l.trips);
  small : l.sum ≤ l.q * 7;
}
