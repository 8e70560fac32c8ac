use Rattle.std.proofs.Common.{◌≡◌, ◌++◌, map, drop}
use Rattle.std.specs.Prelude.{string_bytes}
use Rattle.ae_seq.specs.ProgramTree.{node_tree}
use Rattle.ae_jobs.specs.CostTables.{cost_rows, cost_table}
use Rattle.ae_jobs.proofs.cost_table.cost_table.Given as goal

abbrev pub invariant-loop-node : goal.invariant-loop-node
invariant-loop-node l =
    (string_bytes l.out ++ cost_rows (map node_tree (drop l.node-index l.nodes)) (drop l.node-index l.fn.timing.nodes) ≡ cost_table
    (map node_tree l.fn.nodes) l.fn.timing.nodes)
    × (l.number ≡ l.node-index)
