use Rattle.std.proofs.Common.{◌≡◌, map, take, Some}
use Rattle.ae_seq.specs.Trees.{param_trees}
use Rattle.ae_sttype.specs.StTree.{StTree}
use Rattle.ae_rewrite.specs.Scheduled.{AreFilling, param_layouts}
use Rattle.ae_rewrite.specs.StProgramTree.{st_trees}
use Rattle.ae_rewrite.proofs.plan.plan_params.Given as goal

abbrev pub invariant-loop-i : goal.invariant-loop-i
invariant-loop-i l = record {
  layouts : param_layouts l.budget (take l.i (param_trees l.f.params.items)) ≡ map (λ (s : StTree). Some s) (st_trees l.ins.items);
  filling : AreFilling l.budget (st_trees l.ins.items);
}
