use Rattle.std.proofs.Common.{◌+◌, ◌-◌, ◌≤◌, length}
use Rattle.ae_tidy.specs.Marks.{AreFollowed, AreRooted, left_out}
use Rattle.ae_tidy.specs.Needed.{AreNeeded}
use Rattle.ae_tidy.proofs.mark.follow.Given as goal

abbrev pub invariant-loop-k : goal.invariant-loop-k
invariant-loop-k l = record {
  rooted : AreRooted l.nl l.keep.items;
  followed : AreFollowed l.nl.cells l.keep.items l.line.items l.k;
  needed : AreNeeded l.nl l.keep.items l.line.items;
  within : l.k ≤ length l.line.items;
}

abbrev pub decreases-loop-k : goal.decreases-loop-k
decreases-loop-k l = left_out l.keep.items + length l.line.items - l.k
