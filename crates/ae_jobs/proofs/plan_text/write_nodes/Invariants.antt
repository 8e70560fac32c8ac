use Rattle.std.proofs.Common.{◌≡◌, ◌+◌, ◌++◌, map, drop}
use Rattle.std.specs.Prelude.{string_bytes}
use Rattle.ae_seq.specs.ProgramTree.{node_tree}
use Rattle.ae_rewrite.specs.StProgramTree.{st_func_tree}
use Rattle.ae_rewrite.specs.Sound.{item_layouts}
use Rattle.ae_jobs.specs.PlanTexts.{node_item_lines}
use Rattle.ae_jobs.proofs.plan_text.write_nodes.Given as goal

abbrev pub invariant-loop-node : goal.invariant-loop-node
invariant-loop-node l =
    (string_bytes l.out ++ node_item_lines l.fn.arrivals (item_layouts (st_func_tree l.fn.instance)) l.item (map node_tree (drop l.node-index l.nodes))
    ≡ string_bytes l.fn.out ++ node_item_lines l.fn.arrivals (item_layouts (st_func_tree l.fn.instance)) l.fn.params (map node_tree l.nodes))
    × (l.item ≡ l.fn.params + l.node-index)
