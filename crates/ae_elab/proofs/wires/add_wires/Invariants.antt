use Rattle.std.proofs.Common.{◌+◌, ◌*◌, ◌≤◌, length}
use Rattle.ae_vmodule.specs.View.{module_tree}
use Rattle.ae_gates.specs.Cells.{GrowsByGates}
use Rattle.ae_order.specs.Drives.{values_of}
use Rattle.ae_elab.specs.Wiring.{IsWiring, KeepsNets, open_weight}
use Rattle.ae_elab.proofs.wires.add_wires.Given as goal

abbrev pub invariant-loop-turn : goal.invariant-loop-turn
invariant-loop-turn l = record {
  wiring : IsWiring (module_tree l.m) l.from l.order.items l.turn l.nets.items l.nl.cells;
  grows : GrowsByGates l.fn.nl l.nl;
  keeps : KeepsNets l.fn.nets.items l.nets.items;
  few : length l.nl.cells + 8 * open_weight (values_of (module_tree l.m)) l.nets.items ≤ length l.fn.nl.cells + 8 * open_weight
      (values_of (module_tree l.m)) l.fn.nets.items;
}
