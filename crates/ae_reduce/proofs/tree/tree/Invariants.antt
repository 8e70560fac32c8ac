use Rattle.std.proofs.Common.{◌≡◌, ◌+◌, ◌-◌, ◌*◌, ◌^◌, ◌≤◌, length}
use Rattle.ae_gates.specs.Cells.{Adds}
use Rattle.ae_fold.specs.Folding.{products_in}
use Rattle.ae_fold.specs.Rows.{AreFoldNets}
use Rattle.ae_reduce.specs.Trees.{FoldAlike}
use Rattle.ae_reduce.proofs.tree.tree.Given as goal

abbrev pub invariant-loop-i : goal.invariant-loop-i
invariant-loop-i l = record {
  adds : Adds l.fn.nl l.nl (9 * (l.lanes * l.stride - l.count * l.stride) + l.i * l.stride) ((l.lanes * l.stride - l.count * l.stride) * products_in l.folds);
  less : l.count * l.stride ≤ l.lanes * l.stride;
  nets : AreFoldNets l.nl.cells l.folds l.last.items;
  long : length l.last.items ≡ l.count * l.stride;
  some : 1 ≤ l.count;
  few : l.count ≤ 4096;
  deep : l.count ≤ 2 ^ (l.levels - l.i);
  alike : FoldAlike l.nl.cells l.folds l.stride l.lanes l.fn.nets.items l.count l.i l.last.items;
}
