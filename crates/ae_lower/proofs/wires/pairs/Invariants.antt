use Rattle.std.proofs.Common.{◌≤◌}
use Rattle.ae_lower.specs.Wiring.{ArePairs}
use Rattle.ae_lower.proofs.wires.pairs.Given as goal

abbrev pub invariant-loop-e : goal.invariant-loop-e
invariant-loop-e l = record {
  pairs : ArePairs l.first l.second l.e l.k l.l l.out.items;
  within : l.e ≤ l.count;
}
