use Rattle.std.proofs.Common.{◌+◌, ◌≤◌, length}
use Rattle.ae_seq.specs.ProgramTree.{program_tree}
use Rattle.ae_rewrite.specs.Planned.{row_lists}
use Rattle.ae_rewrite.specs.StProgramTree.{st_func_trees}
use Rattle.ae_rewrite.proofs.Planning.{Own}
use Rattle.ae_rewrite.proofs.schedules.plan_budgets.Given as goal

abbrev pub invariant-loop-j : goal.invariant-loop-j
invariant-loop-j l = record {
  own : Own (program_tree l.p) (row_lists l.rows) l.own.items (st_func_trees l.instances.items) l.budgets l.j;
  few : length l.instances.items ≤ length l.fn.instances.items + l.j;
}
