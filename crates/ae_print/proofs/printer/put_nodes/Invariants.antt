use Rattle.std.proofs.Common.{◌≡◌, ◌+◌, ◌++◌, true, length, drop, map}
use Rattle.std.specs.String.{string_bytes}
use Rattle.ae_seq.specs.Formed.{formed_nodes, func_names, node_names, param_names}
use Rattle.ae_seq.specs.Trees.{func_trees, node_trees, param_trees}
use Rattle.ae_print.specs.Printed.{node_fields, nodes_fit, text_of}
use Rattle.ae_print.proofs.printer.put_nodes.Given as goal

abbrev pub invariant-loop-node : goal.invariant-loop-node
invariant-loop-node l = record {
  formed : formed_nodes l.version l.bound (length l.params + l.node-index) (node_trees (drop l.node-index l.nodes)) ≡ true;
  written : string_bytes l.out ++ text_of (map (node_fields (func_names (func_trees l.funcs))
      (param_names (param_trees l.params) ++ node_names (node_trees l.nodes))) (node_trees (drop l.node-index l.nodes)))
      ≡ string_bytes l.initial.out ++ text_of (map (node_fields (func_names (func_trees l.funcs))
      (param_names (param_trees l.params) ++ node_names (node_trees l.nodes))) (node_trees l.nodes));
  fit : nodes_fit (node_trees (drop l.node-index l.nodes)) ≡ nodes_fit (node_trees l.nodes);
}
