use Rattle.std.proofs.Common.{ℕ, ◌≡◌, ◌+◌, ◌*◌, length, Some, slice_get}
use Rattle.ae_netlist.specs.Circuit.{IsNet}
use Rattle.ae_clocked.specs.Rings.{rings}
use Rattle.ae_fold.specs.Feedback.{AddsStores, TurnsAlways}
use Rattle.ae_fold.specs.declared.feedback.Loop.{Loop}
use Rattle.ae_fold.specs.Folding.{fold_at, products_in}
use Rattle.ae_fold.specs.Rows.{AreLoops}
use Rattle.ae_fold.proofs.loops.accumulate_all.Given as goal

abbrev pub invariant-loop-p : goal.invariant-loop-p
invariant-loop-p l = record {
  adds : AddsStores l.fn.nl l.nl (l.p * (l.inner + 9)) (l.p * products_in l.folds) (l.p * rings l.inner);
  long : length l.loops.items ≡ l.p;
  backs : (p : ℕ) (one : Loop) → slice_get l.loops.items p ≡ Some one → IsNet l.nl.cells one.back.0 (fold_at l.folds (l.from + p)).width;
  loops : (rst : ℕ) → TurnsAlways l.fn.nl.cells rst l.ring → AreLoops l.nl.cells rst l.folds l.nets l.from l.first.0 l.inner l.loops.items;
}
