use Rattle.std.proofs.Common.{◌≡◌, ◌+◌, ◌*◌, ◌/◌, min, length}
use Rattle.ae_gates.specs.Cells.{Adds}
use Rattle.ae_fold.specs.Folding.{products_in}
use Rattle.ae_reduce.specs.Trees.{ArePairs}
use Rattle.ae_reduce.proofs.tree.level.Given as goal

abbrev pub invariant-loop-q : goal.invariant-loop-q
invariant-loop-q l = record {
  adds : Adds l.fn.nl l.nl (l.q + 8 * min l.q (l.lanes / 2 * l.stride)) (min l.q (l.lanes / 2 * l.stride) * products_in l.folds);
  long : length l.outs.items ≡ l.q;
  pairs : ArePairs l.nl.cells l.folds l.nets l.stride l.outs.items;
}
