use Rattle.std.proofs.Common.{◌≡◌, ◌+◌, ◌*◌, ◌≤◌, min, length, Some}
use Rattle.ae_netlist.specs.declared.cell.NetId.{NetId}
use Rattle.ae_netlist.specs.Counts.{count_of, is_register}
use Rattle.ae_gates.specs.Cells.{is_test}
use Rattle.ae_clocked.specs.Phases.{Belongs, KeepsCounters, kept_at, made_of}
use Rattle.ae_clocked.specs.Delays.{IsTap}
use Rattle.ae_clocked.specs.Rings.{AddsMemories}
use Rattle.ae_clocked.specs.Rows.{AreLinks}
use Rattle.ae_clocked.proofs.row.make_row.Given as goal

abbrev pub invariant-loop-j : goal.invariant-loop-j
invariant-loop-j l = record {
  belongs : Belongs l.clocks l.nl.cells;
  keeps : KeepsCounters l.fn.clocks l.clocks;
  adds : AddsMemories l.fn.nl l.nl (18 * l.j) l.j;
  registers : count_of is_register l.nl.cells + made_of l.fn.clocks ≤ count_of is_register l.fn.nl.cells + made_of l.clocks + min l.j l.spare;
  tests : count_of is_test l.nl.cells + made_of l.fn.clocks ≤ count_of is_test l.fn.nl.cells + made_of l.clocks;
  gained : made_of l.clocks ≤ made_of l.fn.clocks + min l.j 1;
  far : 1 ≤ l.j → (net : NetId) × (kept_at l.clocks (record { period = 4096; offset = 0 }) ≡ Some net);
  long : length l.links.items ≡ l.j;
  links : AreLinks l.nl.cells l.fn.clocks.rst l.width l.fn.x.0 l.reach l.links.items;
  head : IsTap l.nl.cells l.fn.clocks.rst l.width l.fn.x.0 (4096 * l.j) l.head.0;
}
