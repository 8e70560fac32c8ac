use Rattle.std.proofs.Common.{◌≤◌, length, take}
use Rattle.ae_fuse.specs.Wanted.{AreRaised}
use Rattle.ae_fuse.proofs.wanted.raise.Given as goal

abbrev pub invariant-loop-k : goal.invariant-loop-k
invariant-loop-k l = record {
  raised : AreRaised (take l.k l.items) l.to l.initial.last.items l.last.items;
  within : l.k ≤ length l.items;
}
