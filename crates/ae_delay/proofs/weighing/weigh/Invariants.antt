use Rattle.std.proofs.Common.{◌≡◌, List, [], take}
use Rattle.ae_seq.specs.Typing.{grown}
use Rattle.ae_rewrite.specs.StProgramTree.{st_func_tree}
use Rattle.ae_delay.specs.declared.own.OwnCosts.{OwnCosts}
use Rattle.ae_delay.specs.Costs.{meets_of, next_timing}
use Rattle.ae_delay.specs.Weighing.{AreKnown, IsProgress}
use Rattle.ae_delay.proofs.weighing.weigh.Given as goal

abbrev pub invariant-loop-node : goal.invariant-loop-node
invariant-loop-node l = record {
  nodes : l.node-items ≡ l.s.nodes.items;
  progress : (costs : List OwnCosts) → AreKnown l.known costs
      → IsProgress (st_func_tree l.s) (grown (next_timing costs (st_func_tree l.s)) [] (take l.node-index (st_func_tree l.s).nodes)) l.limit l.progress;
  meets : l.progress.meets.items ≡ meets_of l.progress.arrivals.items (take l.node-index (st_func_tree l.s).nodes);
}
