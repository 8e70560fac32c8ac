use Rattle.std.proofs.Common.{◌≡◌, drop}
use Rattle.ae_seq.specs.Formed.{apart, param_names, node_names}
use Rattle.ae_seq.specs.Trees.{param_trees, node_trees}
use Rattle.ae_seq.proofs.formed.are_apart.Given as goal

abbrev pub invariant-loop-param : goal.invariant-loop-param
invariant-loop-param l =
    apart (param_names (param_trees (drop l.param-index l.params))) (node_names (node_trees l.nodes)) ≡ apart (param_names (param_trees l.params))
    (node_names (node_trees l.nodes))
