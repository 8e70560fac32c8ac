use Rattle.std.proofs.Common.{length}
use Rattle.ae_netlist.specs.Circuit.{IsNet}
use Rattle.ae_netlist.specs.Runs.{InEveryRunFrom}
use Rattle.ae_gates.specs.Cells.{Adds}
use Rattle.ae_clocked.specs.Delays.{IsLate}
use Rattle.ae_fold.proofs.feedback.trail.Given as goal

abbrev pub invariant-loop-i : goal.invariant-loop-i
invariant-loop-i l = record {
  adds : Adds l.fn.nl l.nl l.i 0;
  net : IsNet l.nl.cells l.last.0 l.width;
  words : InEveryRunFrom (length l.fn.nl.cells) l.nl.cells (λ run. IsLate run l.last.0 l.fn.x.0 l.i);
}
