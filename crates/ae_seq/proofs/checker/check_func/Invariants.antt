use Rattle.std.proofs.Common.{◌≡◌, drop, map, Some, IsTrue}
use Rattle.ae_seq.specs.ProgramTree.{func_tree}
use Rattle.ae_seq.specs.Signatures.{signatures_by}
use Rattle.ae_seq.specs.Trees.{func_trees, node_trees, type_trees, types_of}
use Rattle.ae_seq.specs.Typing.{all_in_size, judged_nodes, node_type, item_types, refused, grown, param_types}
use Rattle.ae_seq.proofs.checker.check_func.Given as goal

abbrev pub invariant-loop-node : goal.invariant-loop-node
invariant-loop-node l =
    let known = signatures_by (func_trees l.funcs) (types_of l.types) in
    let items = map Some (type_trees l.items.items) in
    let rest = node_trees (drop l.node-index l.func.nodes.items) in
    record {
      verdict : refused (judged_nodes known items rest) ≡ refused
          (judged_nodes known (map Some (param_types (func_tree l.func))) (node_trees l.func.nodes.items));
      types : grown (node_type known) items rest ≡ item_types known (func_tree l.func);
      sized : IsTrue (all_in_size (type_trees l.items.items));
    }
