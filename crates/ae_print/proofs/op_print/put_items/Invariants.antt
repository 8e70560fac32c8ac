use Rattle.std.proofs.Common.{◌≡◌, ◌+◌, ◌++◌, true, length, drop, map}
use Rattle.std.specs.String.{string_bytes}
use Rattle.ae_seq.specs.Formed.{all_below, node_names, param_names}
use Rattle.ae_seq.specs.Trees.{node_trees, param_trees}
use Rattle.ae_print.specs.Printed.{name_at, spaced}
use Rattle.ae_print.proofs.op_print.put_items.Given as goal

abbrev pub invariant-loop-item : goal.invariant-loop-item
invariant-loop-item l = record {
  below : all_below (length l.params + length l.nodes) (drop l.item-index l.items) ≡ true;
  written : string_bytes l.out ++ spaced (map (name_at (param_names (param_trees l.params) ++ node_names (node_trees l.nodes))) (drop l.item-index l.items))
      ≡ string_bytes l.initial.out ++ spaced (map (name_at (param_names (param_trees l.params) ++ node_names (node_trees l.nodes))) l.items);
}
