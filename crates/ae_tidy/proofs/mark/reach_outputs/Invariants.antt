use Rattle.std.proofs.Common.{◌≡◌, length}
use Rattle.ae_tidy.specs.Marks.{AreOutputs, Grows}
use Rattle.ae_tidy.specs.Needed.{IsNeeded, KeepsOnly}
use Rattle.ae_tidy.proofs.mark.reach_outputs.Given as goal

abbrev pub invariant-loop-k : goal.invariant-loop-k
invariant-loop-k l = record {
  all : l.k-end ≡ length l.nl.outlets;
  grows : Grows l.fn.keep.items l.fn.line.items l.keep.items l.line.items;
  only : KeepsOnly (IsNeeded l.nl) l.fn.keep.items l.fn.line.items l.keep.items l.line.items;
  outputs : AreOutputs l.nl.outlets l.keep.items l.k;
}
