use Rattle.std.proofs.Common.{◌+◌, ◌*◌, ◌≤◌, length, sum_by, take}
use Rattle.ae_gates.specs.Cells.{Adds}
use Rattle.ae_clocked.specs.Phases.{Belongs, KeepsCounters, made_of}
use Rattle.ae_columns.specs.Counts.{Counted, early_count, steps_tests}
use Rattle.ae_columns.specs.Plans.{steps_cells}
use Rattle.ae_columns.specs.Laws.{AreColumns}
use Rattle.ae_gather.proofs.moving.all_columns.Given as goal

abbrev pub invariant-loop-q : goal.invariant-loop-q
invariant-loop-q l = record {
  belongs : Belongs l.clocks l.nl.cells;
  keeps : KeepsCounters l.fn.clocks l.clocks;
  counted : Counted l.fn.nl l.nl (made_of l.fn.clocks)
      (made_of l.clocks) (early_count (take l.q l.early)) (sum_by steps_tests (take l.q l.columns));
  adds : Adds l.fn.nl l.nl (sum_by steps_cells (take l.q l.columns) + 3 * l.q) 0;
  within : l.q ≤ length l.columns;
  columns : AreColumns l.nl.cells l.fn.clocks.rst l.counters l.ins l.widths l.early (take l.q l.columns) l.out.items;
}
