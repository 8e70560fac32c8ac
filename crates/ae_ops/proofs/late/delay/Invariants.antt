use Rattle.std.proofs.Common.{◌≡◌, ◌+◌, ◌*◌, ◌≤◌, length}
use Rattle.ae_netlist.specs.Counts.{AreWhole, count_of, is_memory, is_mul}
use Rattle.ae_gates.specs.Cells.{Grows}
use Rattle.ae_clocked.specs.Rings.{rings}
use Rattle.ae_clocked.specs.Phases.{Belongs, KeepsCounters}
use Rattle.ae_ops.proofs.Lateness.{AreTapping}
use Rattle.ae_ops.proofs.late.delay.Given as goal

abbrev pub invariant-loop-net : goal.invariant-loop-net
invariant-loop-net l = record {
  belongs : Belongs l.clocks l.nl.cells;
  keeps : KeepsCounters l.fn.clocks l.clocks;
  grows : Grows l.fn.nl l.nl;
  cells : length l.nl.cells ≤ length l.fn.nl.cells + l.net-index * (8 * l.slack + 4);
  muls : count_of is_mul l.nl.cells ≡ count_of is_mul l.fn.nl.cells;
  memories : count_of is_memory l.nl.cells ≤ count_of is_memory l.fn.nl.cells + l.net-index * rings l.slack;
  whole : AreWhole l.fn.nl.cells → AreWhole l.nl.cells;
  taps : AreTapping l.fn.nl.cells l.nl.cells l.fn.clocks.rst l.slack l.net-index l.nets l.late.items;
}
