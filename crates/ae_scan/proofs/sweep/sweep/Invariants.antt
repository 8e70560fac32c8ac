use Rattle.std.proofs.Common.{◌≡◌, ◌+◌, ◌*◌, ◌^◌, ◌≤◌, length}
use Rattle.ae_gates.specs.Cells.{Adds}
use Rattle.ae_fold.specs.Folding.{products_in}
use Rattle.ae_fold.specs.Rows.{AreFoldNets}
use Rattle.ae_scan.specs.Sweeps.{Windowed}
use Rattle.ae_scan.specs.Scans.{sweep_joins}
use Rattle.ae_scan.proofs.sweep.sweep.Given as goal

abbrev pub invariant-loop-i : goal.invariant-loop-i
invariant-loop-i l = record {
  adds : Adds l.fn.nl l.nl (l.i * (l.lanes * l.stride * 9)) (sweep_joins l.lanes l.stride l.i * products_in l.folds);
  less : 2 ^ l.i * l.stride ≤ l.i * (l.lanes * l.stride) + l.stride;
  reach : l.reach ≡ 2 ^ l.i * l.stride;
  nets : AreFoldNets l.nl.cells l.folds l.last.items;
  long : length l.last.items ≡ l.lanes * l.stride;
  windows : Windowed l.nl.cells l.folds l.stride l.lanes l.fn.nets.items l.i l.last.items;
}
