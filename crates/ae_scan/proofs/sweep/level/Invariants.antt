use Rattle.std.proofs.Common.{◌≡◌, ◌-◌, ◌*◌, length}
use Rattle.ae_gates.specs.Cells.{Adds}
use Rattle.ae_fold.specs.Folding.{products_in}
use Rattle.ae_scan.specs.Sweeps.{AreJoins}
use Rattle.ae_scan.proofs.sweep.level.Given as goal

abbrev pub invariant-loop-q : goal.invariant-loop-q
invariant-loop-q l = record {
  adds : Adds l.fn.nl l.nl (l.q * 9) ((l.q - l.reach) * products_in l.folds);
  long : length l.outs.items ≡ l.q;
  joins : AreJoins l.nl.cells l.folds l.nets l.reach l.outs.items;
}
