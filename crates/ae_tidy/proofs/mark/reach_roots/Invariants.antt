use Rattle.std.proofs.Common.{◌≡◌, length}
use Rattle.ae_tidy.specs.Marks.{AreRoots, Grows}
use Rattle.ae_tidy.specs.Needed.{IsNeeded, KeepsOnly}
use Rattle.ae_tidy.proofs.mark.reach_roots.Given as goal

abbrev pub invariant-loop-n : goal.invariant-loop-n
invariant-loop-n l = record {
  all : l.n-end ≡ length l.nl.cells;
  grows : Grows l.fn.keep.items l.fn.line.items l.keep.items l.line.items;
  only : KeepsOnly (IsNeeded l.nl) l.fn.keep.items l.fn.line.items l.keep.items l.line.items;
  roots : AreRoots l.nl.cells l.keep.items l.n;
}
