use Rattle.std.proofs.Common.{◌≡◌, ◌+◌, ◌≤◌, length, sum_by, take}
use Rattle.ae_netlist.specs.Counts.{AreWhole, count_of, is_memory, is_mul}
use Rattle.ae_gates.specs.Cells.{Grows}
use Rattle.ae_clocked.specs.Phases.{Belongs, KeepsCounters, made_of}
use Rattle.ae_columns.specs.Counts.{Counted}
use Rattle.ae_gather.specs.Counts.{line_registers}
use Rattle.ae_clocked.specs.Delays.{line_cells}
use Rattle.ae_columns.specs.Laws.{AreLines}
use Rattle.ae_columns.specs.Plans.{line_mems}
use Rattle.ae_gather.proofs.moving.all_lines.Given as goal

abbrev pub invariant-loop-q : goal.invariant-loop-q
invariant-loop-q l = record {
  belongs : Belongs l.clocks l.nl.cells;
  keeps : KeepsCounters l.fn.clocks l.clocks;
  grows : Grows l.fn.nl l.nl;
  cells : length l.nl.cells ≤ length l.fn.nl.cells + sum_by line_cells (take l.q l.ages);
  muls : count_of is_mul l.nl.cells ≡ count_of is_mul l.fn.nl.cells;
  memories : count_of is_memory l.nl.cells ≤ count_of is_memory l.fn.nl.cells + sum_by line_mems (take l.q l.ages);
  counted : Counted l.fn.nl l.nl (made_of l.fn.clocks) (made_of l.clocks) (sum_by line_registers (take l.q l.ages)) 0;
  whole : AreWhole l.fn.nl.cells → AreWhole l.nl.cells;
  lines : AreLines l.nl.cells l.fn.clocks.rst l.ins (take l.q l.ages) l.lines.items;
}
