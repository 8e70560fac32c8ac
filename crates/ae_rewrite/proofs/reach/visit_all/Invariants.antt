use Rattle.ae_seq.specs.ProgramTree.{program_tree}
use Rattle.ae_rewrite.specs.Planned.{number_lists}
use Rattle.ae_rewrite.proofs.Budgets.{VisitsAll}
use Rattle.ae_rewrite.proofs.reach.visit_all.Given as goal

abbrev pub invariant-loop-j : goal.invariant-loop-j
invariant-loop-j l = VisitsAll (program_tree l.p) l.func l.budget-items (number_lists l.fn.needs.items) (number_lists l.needs.items) l.j
