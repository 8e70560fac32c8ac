use Rattle.std.proofs.Common.{◌≡◌, drop, map}
use Rattle.ae_seq.specs.ProgramTree.{node_tree}
use Rattle.ae_least.specs.Others.{first_other}
use Rattle.ae_least.proofs.others.first_other.Given as goal

abbrev pub invariant-loop-node : goal.invariant-loop-node
invariant-loop-node l = first_other (map node_tree l.nodes) ≡ first_other (map node_tree (drop l.node-index l.nodes))
