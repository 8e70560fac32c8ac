use Rattle.std.proofs.Common.{◌≡◌}
use Rattle.table_circuits.proofs.stepping.step_all.Given as goal

abbrev pub invariant-loop-line : goal.invariant-loop-line
invariant-loop-line l = record {
  cells : l.sim.cells ≡ l.nl.cells;
  outlets : l.sim.outlets ≡ l.nl.outlets;
}
