use Rattle.std.proofs.Common.{◌≤◌, length, ap, arith, rules}
use Rattle.std.proofs.lemmas.List.{length-map}
use Rattle.ae_seq.specs.ProgramTree.{program_tree}
use Rattle.ae_rewrite.specs.Planned.{row_lists, number_lists}
use Rattle.ae_rewrite.specs.StProgramTree.{st_func_trees}
use Rattle.ae_rewrite.proofs.Few.{few-budgets}
use Rattle.ae_rewrite.proofs.Forms.{few-funcs}
use Rattle.ae_rewrite.proofs.Whole.{all-end, all-more, all-start, number-list, rows-long, within-of, known-of}
use Rattle.ae_rewrite.proofs.schedules.plan_all.Goals as goal

pub overflow_cast-f : goal.overflow_cast-f
overflow_cast-f c =
    let few = few-funcs (program_tree c.args.p.now) c.requires.formed in
    let count = rw length-map at c.requires.reaches.count in
    let h : c.loop-f.f ≤ 4096 = omega (arith, few, count, c.loop-f-test.true) in
    search rules

pub plan_budgets-requires-clause-within : goal.plan_budgets-requires-clause-within
plan_budgets-requires-clause-within c =
    let at = number-list c.args.needs.now c.loop-f.f c.index-needs-f.result c.loop-f-test.true c.index-needs-f.is in
    rw c.deref-in-loop-f.ensures.value (within-of (program_tree c.args.p.now) c.args.clocks c.loop-f.f
    (number_lists c.args.needs.now) _ c.requires.time c.requires.limit c.requires.reaches at)

pub plan_budgets-requires-clause-known : goal.plan_budgets-requires-clause-known
plan_budgets-requires-clause-known c =
    let at = number-list c.args.needs.now c.loop-f.f c.index-needs-f.result c.loop-f-test.true c.index-needs-f.is in
    rw (c.deref-in-loop-f.ensures.value, c.deref.ensures.value)
    (λ i u is. known-of (program_tree c.args.p.now) c.args.clocks c.loop-f.f u (number_lists c.args.needs.now)
    (row_lists c.loop-f.rows.items) c.requires.formed c.requires.reaches c.loop-f.invariant.all.are
    (record { own = c.index-needs-f.result.items; here = at; at = i; is = is }))

pub plan_budgets-requires-clause-once : goal.plan_budgets-requires-clause-once
plan_budgets-requires-clause-once c =
    let at = number-list c.args.needs.now c.loop-f.f c.index-needs-f.result c.loop-f-test.true c.index-needs-f.is in
    rw c.deref-in-loop-f.ensures.value (c.requires.reaches.once c.loop-f.f _ at)

pub plan_budgets-requires-clause-few : goal.plan_budgets-requires-clause-few
plan_budgets-requires-clause-few c =
    let at = number-list c.args.needs.now c.loop-f.f c.index-needs-f.result c.loop-f-test.true c.index-needs-f.is in
    let own = few-budgets c.index-needs-f.result.items (c.requires.reaches.once c.loop-f.f _ at)
    (within-of (program_tree c.args.p.now) c.args.clocks c.loop-f.f
    (number_lists c.args.needs.now) _ c.requires.time c.requires.limit c.requires.reaches at) in
    let funcs = few-funcs (program_tree c.args.p.now) c.requires.formed in
    let count = rw length-map at c.requires.reaches.count in
    omega (arith, own, funcs, count, c.loop-f.invariant.few, c.loop-f-test.true, ap length c.deref-in-loop-f.ensures.value)

pub loop-f-preserved : goal.loop-f-preserved
loop-f-preserved c =
    let at = number-list c.args.needs.now c.loop-f.f c.index-needs-f.result c.loop-f-test.true c.index-needs-f.is in
    let own = few-budgets c.index-needs-f.result.items (c.requires.reaches.once c.loop-f.f _ at)
    (within-of (program_tree c.args.p.now) c.args.clocks c.loop-f.f
    (number_lists c.args.needs.now) _ c.requires.time c.requires.limit c.requires.reaches at) in
    record {
      all =
          rw c.in_ok-append_rows.ensures
          (all-more (program_tree c.args.p.now) (number_lists c.args.needs.now) (row_lists c.loop-f.rows.items) c.in_ok-own.own.items
          (st_func_trees c.loop-f.instances.items) _ c.loop-f.f _ c.loop-f.invariant.all at
          (rw c.deref.ensures.value at c.in_ok-own.ensures.plans) (rw c.deref-in-loop-f.ensures.value at c.in_ok-own.ensures.budgets));
      few = omega (arith, own, c.loop-f.invariant.few, c.in_ok-own.ensures.few, ap length c.deref-in-loop-f.ensures.value);
    }

pub returns-clause-few : goal.returns-clause-few
returns-clause-few c =
    let funcs = few-funcs (program_tree c.args.p.now) c.requires.formed in
    let count = rw length-map at c.requires.reaches.count in
    omega (arith, funcs, count, c.loop-f.invariant.few)

pub loop-f-init : goal.loop-f-init
loop-f-init c =
    rw c.new-rows.ensures.items
    (record {
      all = all-start (program_tree c.args.p.now) (number_lists c.args.needs.now) (st_func_trees c.args.instances.now.items)
          (ap st_func_trees c.requires.empty);
      few = omega (arith, ap length c.requires.empty);
    })

pub plan_budgets-requires-clause-there : goal.plan_budgets-requires-clause-there
plan_budgets-requires-clause-there c = let count = rw length-map at c.requires.reaches.count in omega (arith, count, c.loop-f-test.true)

pub plan_budgets-requires-clause-next : goal.plan_budgets-requires-clause-next
plan_budgets-requires-clause-next c =
    let long =
    rows-long (program_tree c.args.p.now) (number_lists c.args.needs.now) (row_lists c.loop-f.rows.items) (st_func_trees c.loop-f.instances.items)
    c.loop-f.f c.loop-f.invariant.all
    (rw length-map c.loop-f-test.true)
    in
    let same = simp length-map at long in
    omega (arith, same, ap length c.deref.ensures.value)

pub plan_budgets-requires-clause-plans : goal.plan_budgets-requires-clause-plans
plan_budgets-requires-clause-plans c = rw c.deref.ensures.value c.loop-f.invariant.all.plans

pub returns-clause-plans : goal.returns-clause-plans
returns-clause-plans c = c.loop-f.invariant.all.plans

pub returns-clause-budgets : goal.returns-clause-budgets
returns-clause-budgets c =
    (all-end (program_tree c.args.p.now) (number_lists c.args.needs.now) (row_lists c.loop-f.rows.items) (st_func_trees c.loop-f.instances.items) c.loop-f.f
    c.loop-f.invariant.all
    (rw length-map c.loop-f-test.false)).1
