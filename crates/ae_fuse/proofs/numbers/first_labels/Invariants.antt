use Rattle.std.proofs.Common.{◌≡◌, ◌+◌, ◌≤◌, ◌*◌, map, take}
use Rattle.ae_rewrite.specs.StProgramTree.{st_trees}
use Rattle.ae_fuse.specs.Labels.{layout_numbers}
use Rattle.ae_fuse.proofs.NumberSteps.{all_words}
use Rattle.ae_fuse.proofs.numbers.first_labels.Given as goal

abbrev pub invariant-loop-layout : goal.invariant-loop-layout
invariant-loop-layout l = record {
  labels : map (λ w. w.items) l.labels.items ≡ layout_numbers 1 (st_trees (take l.layout-index l.ins));
  first : l.first ≡ 1 + all_words (st_trees (take l.layout-index l.ins));
  few : l.first ≤ 1 + l.layout-index * 16384;
}
