use Rattle.ae_seq.specs.ProgramTree.{program_tree}
use Rattle.ae_rewrite.specs.Planned.{number_lists}
use Rattle.ae_rewrite.proofs.Budgets.{Visits}
use Rattle.ae_rewrite.proofs.reach.visit.Given as goal

abbrev pub invariant-loop-k : goal.invariant-loop-k
invariant-loop-k l = Visits (program_tree l.p) l.func l.budget (number_lists l.fn.needs.items) (number_lists l.needs.items) l.k
