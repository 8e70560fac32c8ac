use Rattle.std.proofs.Common.{◌≡◌, drop}
use Rattle.ae_seq.specs.Formed.{all_names, node_names}
use Rattle.ae_seq.specs.Trees.{node_trees}
use Rattle.ae_seq.proofs.formed.named_nodes.Given as goal

abbrev pub invariant-loop-node : goal.invariant-loop-node
invariant-loop-node l = all_names (node_names (node_trees (drop l.node-index l.nodes))) ≡ all_names (node_names (node_trees l.nodes))
