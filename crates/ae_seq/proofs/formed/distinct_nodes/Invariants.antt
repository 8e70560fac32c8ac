use Rattle.std.proofs.Common.{◌≡◌, drop}
use Rattle.ae_seq.specs.Formed.{all_distinct, node_names}
use Rattle.ae_seq.specs.Trees.{node_trees}
use Rattle.ae_seq.proofs.formed.distinct_nodes.Given as goal

abbrev pub invariant-loop-i : goal.invariant-loop-i
invariant-loop-i l = all_distinct (node_names (node_trees (drop l.i l.nodes))) ≡ all_distinct (node_names (node_trees l.nodes))
