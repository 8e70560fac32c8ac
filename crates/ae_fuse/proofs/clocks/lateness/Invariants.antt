use Rattle.std.proofs.Common.{◌≡◌, ◌≤◌, length}
use Rattle.std.specs.List.{range_with_len}
use Rattle.ae_sttype.specs.Moves.{greatest}
use Rattle.ae_fuse.specs.Clocks.{lead_of}
use Rattle.ae_fuse.proofs.clocks.lateness.Given as goal

abbrev pub invariant-loop-o : goal.invariant-loop-o
invariant-loop-o l = record {
  most : l.most ≡ greatest (lead_of l.sources l.labels l.elements l.words) (range_with_len 0 l.o);
  within : l.o ≤ length l.labels;
}
