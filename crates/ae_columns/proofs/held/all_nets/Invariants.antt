use Rattle.std.proofs.Common.{◌*◌}
use Rattle.ae_gates.specs.Cells.{Adds}
use Rattle.ae_clocked.specs.Phases.{Belongs, KeepsCounters, made_of}
use Rattle.ae_columns.specs.Counts.{Counted}
use Rattle.ae_columns.specs.Held.{kept_count}
use Rattle.ae_columns.proofs.Keeping.{KeptSoFar}
use Rattle.ae_columns.proofs.held.all_nets.Given as goal

abbrev pub invariant-loop-q : goal.invariant-loop-q
invariant-loop-q l = record {
  belongs : Belongs l.clocks l.nl.cells;
  keeps : KeepsCounters l.fn.clocks l.clocks;
  adds : Adds l.fn.nl l.nl (16 * kept_count l.held l.q) 0;
  counted : Counted l.fn.nl l.nl (made_of l.fn.clocks) (made_of l.clocks) (kept_count l.held l.q) (kept_count l.held l.q);
  kept : KeptSoFar l.q l.nl.cells l.fn.clocks.rst l.period l.d l.arrival l.ins l.held l.all.items;
}
