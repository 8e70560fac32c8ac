use Rattle.std.proofs.Common.{◌≡◌, length, take, replicate}
use Rattle.std.specs.List.{flat_map}
use Rattle.ae_rewrite.specs.StProgramTree.{StNodeTree, st_func_tree}
use Rattle.ae_delay.specs.Weighing.{deepened}
use Rattle.ae_retime.specs.Slacks.{joint_uses}
use Rattle.ae_retime.proofs.uses.item_chains.Given as goal

abbrev pub invariant-loop-j : goal.invariant-loop-j
invariant-loop-j l = record {
  long : length l.chains.items ≡ length l.arrivals;
  chains : l.chains.items ≡ deepened (replicate (length l.arrivals) 0)
      (flat_map (λ (n : StNodeTree). joint_uses l.arrivals n.args) (take l.j (st_func_tree l.s).nodes));
}
