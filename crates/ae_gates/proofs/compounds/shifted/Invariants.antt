use Rattle.std.proofs.Common.{ℕ, ◌≤◌, ◌+◌, ◌*◌, ◌%◌, ◌^◌, List, length}
use Rattle.ae_netlist.specs.Circuit.{IsNet}
use Rattle.ae_netlist.specs.Runs.{Clock}
use Rattle.ae_gates.specs.Cells.{GrowsByGates, IsWord}
use Rattle.ae_gates.specs.Shifts.{moved}
use Rattle.ae_gates.proofs.compounds.shifted.Given as goal

abbrev pub invariant-loop-i : goal.invariant-loop-i
invariant-loop-i l = record {
  grows : GrowsByGates l.fn.nl l.nl;
  more : length l.fn.nl.cells ≤ length l.nl.cells;
  few : length l.nl.cells ≤ length l.fn.nl.cells + 5 * l.i;
  net : IsNet l.nl.cells l.y.0 l.width;
  word : (f g : List Clock → ℕ → ℕ) → IsWord l.from l.fn.nl.cells l.fn.x.0 l.width f → IsWord l.from l.fn.nl.cells l.by.0 l.own g
      → IsWord l.from l.nl.cells l.y.0 l.width (λ run t. moved l.way l.width (f run t) (g run t % 2 ^ l.i));
}
