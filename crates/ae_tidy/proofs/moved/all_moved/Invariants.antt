use Rattle.std.proofs.Common.{ℕ, ◌≤◌, length}
use Rattle.ae_tidy.specs.Places.{AreCut, AreMarks}
use Rattle.ae_tidy.proofs.Cutting.{AreSure}
use Rattle.ae_tidy.proofs.moved.all_moved.Given as goal

abbrev pub invariant-loop-mark : goal.invariant-loop-mark
invariant-loop-mark l = record {
  within : l.count ≤ length l.made;
  placed : AreMarks l.count l.mark-index l.places.items;
  sure : (cells count : ℕ) → AreMarks cells count l.marks → AreSure l.made l.count l.marks l.mark-index;
  cut : (cells count : ℕ) → AreMarks cells count l.marks → AreCut l.made l.marks l.places.items;
}
