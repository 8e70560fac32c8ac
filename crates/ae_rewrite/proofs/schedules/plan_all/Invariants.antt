use Rattle.std.proofs.Common.{◌*◌, ◌≤◌, length}
use Rattle.ae_seq.specs.ProgramTree.{program_tree}
use Rattle.ae_rewrite.specs.Planned.{row_lists, number_lists}
use Rattle.ae_rewrite.specs.StProgramTree.{st_func_trees}
use Rattle.ae_rewrite.proofs.Whole.{All}
use Rattle.ae_rewrite.proofs.schedules.plan_all.Given as goal

abbrev pub invariant-loop-f : goal.invariant-loop-f
invariant-loop-f l = record {
  all : All (program_tree l.p) (number_lists l.needs) (row_lists l.rows.items) (st_func_trees l.instances.items) l.f;
  few : length l.instances.items ≤ 4097 * l.f;
}
