use Rattle.std.proofs.Common.{◌≡◌, ◌+◌, ◌≤◌, length}
use Rattle.ae_netlist.specs.Counts.{count_of, is_register}
use Rattle.ae_gates.specs.Cells.{Adds, is_test}
use Rattle.ae_clocked.specs.Delays.{AreDelays, IsDelay}
use Rattle.ae_clocked.proofs.lines.chain.Given as goal

abbrev pub invariant-loop-i : goal.invariant-loop-i
invariant-loop-i l = record {
  adds : Adds l.fn.nl l.nl l.i 0;
  delays : AreDelays l.nl.cells l.width l.fn.x.0 l.nets.items;
  long : length l.nets.items ≡ l.i + 1;
  registers : count_of is_register l.nl.cells ≤ count_of is_register l.fn.nl.cells + l.i;
  tests : count_of is_test l.nl.cells ≤ count_of is_test l.fn.nl.cells;
  last : IsDelay l.nl.cells l.width l.fn.x.0 l.i l.last.0;
}
