use Rattle.std.proofs.Common.{ℕ, ◌+◌, ◌*◌, ◌≤◌, take, count_by, nat_lt}
use Rattle.ae_netlist.specs.Counts.{count_of, is_register}
use Rattle.ae_gates.specs.Cells.{Adds, is_test}
use Rattle.ae_clocked.specs.Phases.{Belongs}
use Rattle.ae_clocked.specs.Delays.{AreDelays, AreTaps}
use Rattle.ae_clocked.specs.Rows.{AreLinks}
use Rattle.ae_clocked.proofs.lines.ring_line.Given as goal

abbrev pub invariant-loop-tap : goal.invariant-loop-tap
invariant-loop-tap l = record {
  adds : Adds l.initial.nl l.nl (4 * count_by (λ (tap : ℕ). nat_lt 0 tap) (take l.tap-index l.taps)) 0;
  registers : count_of is_register l.nl.cells + l.spare ≤ count_of is_register l.initial.nl.cells + l.initial.spare;
  tests : count_of is_test l.nl.cells ≤ count_of is_test l.initial.nl.cells;
  belongs : Belongs l.clocks l.nl.cells;
  delays : AreDelays l.nl.cells l.width l.fn.x.0 l.nets.items;
  links : AreLinks l.nl.cells l.fn.clocks.rst l.width l.fn.x.0 l.most l.links.items;
  taps : AreTaps l.nl.cells l.fn.clocks.rst l.width l.fn.x.0 (take l.tap-index l.taps) l.tapped.items;
}
