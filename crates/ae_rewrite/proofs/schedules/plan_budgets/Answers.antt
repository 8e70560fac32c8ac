use Rattle.std.proofs.Common.{arith}
use Rattle.std.proofs.lemmas.List.{length-map}
use Rattle.ae_seq.specs.ProgramTree.{program_tree}
use Rattle.ae_rewrite.specs.Planned.{row_lists}
use Rattle.ae_rewrite.specs.StProgramTree.{st_func_trees}
use Rattle.ae_rewrite.proofs.Budgets.{number-at}
use Rattle.ae_rewrite.proofs.Planning.{own-start, own-more}
use Rattle.ae_rewrite.proofs.schedules.plan_budgets.Goals as goal

pub loop-j-init : goal.loop-j-init
loop-j-init c = record {
  own = rw c.new-own.ensures.items (own-start (program_tree c.args.p.now) (row_lists c.args.rows.now)
      (st_func_trees c.args.instances.now.items) c.args.budgets.now c.requires.plans);
  few = omega arith;
}

pub plan_one-requires-clause-time : goal.plan_one-requires-clause-time
plan_one-requires-clause-time c = (c.requires.within c.loop-j.j _ (number-at c.args.budgets.now c.loop-j.j c.loop-j-test.true)).0

pub plan_one-requires-clause-limit : goal.plan_one-requires-clause-limit
plan_one-requires-clause-limit c = (c.requires.within c.loop-j.j _ (number-at c.args.budgets.now c.loop-j.j c.loop-j-test.true)).1

pub plan_one-requires-clause-known : goal.plan_one-requires-clause-known
plan_one-requires-clause-known c = c.requires.known c.loop-j.j _ (number-at c.args.budgets.now c.loop-j.j c.loop-j-test.true)

pub loop-j-preserved : goal.loop-j-preserved
loop-j-preserved c = record {
  own =
      rw c.in_ok-push.ensures.items
      (own-more (program_tree c.args.p.now) (row_lists c.args.rows.now) c.loop-j.own.items c.args.func _ _
      (st_func_trees c.loop-j.instances.items) _ c.args.budgets.now c.loop-j.j
      (rw length-map c.requires.next) c.loop-j.invariant.own c.in_ok-plan.ensures.failing c.in_ok-plan.ensures.made c.requires.once
      (number-at c.args.budgets.now c.loop-j.j c.loop-j-test.true));
  few = omega (arith, c.loop-j.invariant.few, c.in_ok-plan.ensures.few);
}
