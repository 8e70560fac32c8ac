use Rattle.std.proofs.Common.{◌≤◌}
use Rattle.ae_lower.specs.Wiring.{AreParts}
use Rattle.ae_lower.proofs.wires.parts.Given as goal

abbrev pub invariant-loop-e : goal.invariant-loop-e
invariant-loop-e l = record {
  parts : AreParts l.nets l.e l.k l.from l.l l.out.items;
  within : l.e ≤ l.count;
}
