use Rattle.std.proofs.Common.{◌≡◌, ◌≤◌, length, take}
use Rattle.ae_rewrite.specs.StProgramTree.{st_trees}
use Rattle.ae_fuse.proofs.results.copies.Given as goal

abbrev pub invariant-loop-k : goal.invariant-loop-k
invariant-loop-k l = record {
  trees : st_trees l.copied.items ≡ st_trees (take l.k l.layouts);
  within : l.k ≤ length l.layouts;
}
