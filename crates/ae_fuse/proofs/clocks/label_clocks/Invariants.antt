use Rattle.std.proofs.Common.{◌≡◌, take}
use Rattle.ae_rewrite.specs.StProgramTree.{st_trees}
use Rattle.ae_fuse.specs.Clocks.{label_clocks}
use Rattle.ae_fuse.proofs.clocks.label_clocks.Given as goal

abbrev pub invariant-loop-layout : goal.invariant-loop-layout
invariant-loop-layout l = l.clocks.items ≡ label_clocks (st_trees (take l.layout-index l.ins))
