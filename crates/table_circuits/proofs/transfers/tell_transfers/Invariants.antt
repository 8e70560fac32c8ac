use Rattle.std.proofs.Common.{◌≡◌}
use Rattle.table_circuits.proofs.transfers.tell_transfers.Given as goal

abbrev pub invariant-loop-clock : goal.invariant-loop-clock
invariant-loop-clock l = record {
  cells : l.sim.cells ≡ l.nl.cells;
  outlets : l.sim.outlets ≡ l.nl.outlets;
}
