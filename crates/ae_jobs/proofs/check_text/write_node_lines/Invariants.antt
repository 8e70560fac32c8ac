use Rattle.std.proofs.Common.{◌≡◌, ◌+◌, ◌++◌, map, drop}
use Rattle.std.specs.Prelude.{string_bytes}
use Rattle.ae_seq.specs.ProgramTree.{node_tree, program_tree}
use Rattle.ae_jobs.specs.CheckTexts.{node_lines}
use Rattle.ae_jobs.proofs.check_text.write_node_lines.Given as goal

abbrev pub invariant-loop-node : goal.invariant-loop-node
invariant-loop-node l =
    (string_bytes l.out ++ node_lines (program_tree l.fn.p) l.fn.func l.item (map node_tree (drop l.node-index l.nodes)) ≡ string_bytes l.fn.out
    ++ node_lines (program_tree l.fn.p) l.fn.func l.fn.params (map node_tree l.nodes))
    × (l.item ≡ l.fn.params + l.node-index)
