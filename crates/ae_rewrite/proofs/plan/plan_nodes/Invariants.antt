use Rattle.std.proofs.Common.{length}
use Rattle.ae_seq.specs.ProgramTree.{program_tree}
use Rattle.ae_seq.specs.Trees.{node_trees}
use Rattle.ae_rewrite.specs.FailingLine.{failing}
use Rattle.ae_rewrite.specs.Planned.{HasPlan, row_lists}
use Rattle.ae_rewrite.specs.StProgramTree.{st_node_trees}
use Rattle.ae_rewrite.proofs.Params.{Nodes}
use Rattle.ae_rewrite.proofs.plan.plan_nodes.Given as goal

abbrev pub invariant-loop-k : goal.invariant-loop-k
invariant-loop-k l =
    Nodes (program_tree l.p) (HasPlan (row_lists l.rows)) (failing (program_tree l.p)) l.func l.budget (length l.f.params.items)
    (node_trees l.f.nodes.items) l.k (st_node_trees l.nodes.items)
