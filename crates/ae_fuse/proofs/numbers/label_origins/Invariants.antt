use Rattle.std.proofs.Common.{◌≡◌, map, take}
use Rattle.ae_moves.specs.Trees.{origin_tree}
use Rattle.ae_rewrite.specs.StProgramTree.{st_trees}
use Rattle.ae_fuse.specs.Labels.{labelled_origin}
use Rattle.ae_fuse.proofs.numbers.label_origins.Given as goal

abbrev pub invariant-loop-label : goal.invariant-loop-label
invariant-loop-label l = map origin_tree l.found.items ≡ map (labelled_origin (st_trees l.ins)) (take l.label-index l.labels)
