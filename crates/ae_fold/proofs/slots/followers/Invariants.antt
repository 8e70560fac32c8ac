use Rattle.std.proofs.Common.{◌≡◌, ◌*◌, length}
use Rattle.ae_gates.specs.Cells.{Adds}
use Rattle.ae_fold.specs.Folding.{products_in}
use Rattle.ae_fold.specs.Rows.{AreFollowers}
use Rattle.ae_fold.proofs.slots.followers.Given as goal

abbrev pub invariant-loop-q : goal.invariant-loop-q
invariant-loop-q l = record {
  adds : Adds l.fn.nl l.nl (l.q * 10) (l.q * products_in l.folds);
  long : length l.outs.items ≡ l.q;
  follow : AreFollowers l.nl.cells l.folds l.nets l.stride l.first.0 l.loops l.outs.items;
}
