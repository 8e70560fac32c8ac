use Rattle.std.proofs.Common.{◌≡◌, ◌-◌, drop}
use Rattle.ae_rewrite.specs.StProgramTree.{st_trees}
use Rattle.ae_fuse.specs.Labels.{layout_origin}
use Rattle.ae_fuse.proofs.numbers.origin.Given as goal

abbrev pub invariant-loop-i : goal.invariant-loop-i
invariant-loop-i l = layout_origin 0 (st_trees l.ins) (l.label - 1) ≡ layout_origin l.i (drop l.i (st_trees l.ins)) l.rest
