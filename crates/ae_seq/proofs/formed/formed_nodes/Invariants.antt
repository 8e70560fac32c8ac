use Rattle.std.proofs.Common.{◌≡◌, drop, ◌+◌}
use Rattle.ae_seq.specs.Formed.{formed_nodes}
use Rattle.ae_seq.specs.Trees.{node_trees}
use Rattle.ae_seq.proofs.formed.formed_nodes.Given as goal

abbrev pub invariant-loop-i : goal.invariant-loop-i
invariant-loop-i l =
    formed_nodes l.version l.funcs (l.params + l.i) (node_trees (drop l.i l.nodes)) ≡ formed_nodes l.version l.funcs l.params (node_trees l.nodes)
