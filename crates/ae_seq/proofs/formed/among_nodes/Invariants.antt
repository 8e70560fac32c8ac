use Rattle.std.proofs.Common.{◌≡◌, drop}
use Rattle.ae_seq.specs.Formed.{is_among, node_names}
use Rattle.ae_seq.specs.Trees.{node_trees}
use Rattle.ae_seq.proofs.formed.among_nodes.Given as goal

abbrev pub invariant-loop-node : goal.invariant-loop-node
invariant-loop-node l = is_among l.name (node_names (node_trees (drop l.node-index l.nodes))) ≡ is_among l.name (node_names (node_trees l.nodes))
