use Rattle.std.proofs.Common.{◌∙◌}
use Rattle.ae_seq.specs.ProgramTree.{program_tree}
use Rattle.ae_rewrite.specs.Planned.{row_lists, number_lists}
use Rattle.ae_rewrite.specs.StProgramTree.{st_func_tree}
use Rattle.ae_rewrite.proofs.Whole.{main-known, schedule-of}
use Rattle.ae_rewrite.proofs.Planning.{filled-more}
use Rattle.ae_rewrite.proofs.Sound.{schedule_sound}
use Rattle.ae_rewrite.proofs.schedules.schedule.Goals as goal

pub plan_func-requires-clause-known : goal.plan_func-requires-clause-known
plan_func-requires-clause-known c =
    rw (c.deref-2.ensures.value, c.main_of-main.ensures.main, c.program.ensures.program)
    (main-known (program_tree c.args.p.now) c.clocks-clocks.result (number_lists c.in_ok-needs.needs.items)
    (row_lists c.in_ok-rows.rows.items) c.in_ok-needs.ensures
    (rw c.deref.ensures.value at c.in_ok-rows.ensures.budgets))

pub returns-clause-schedule : goal.returns-clause-schedule
returns-clause-schedule c =
    rw (c.new.ensures, ← c.clocks-clocks.ensures.is)
    (schedule-of (program_tree c.args.p.now) c.clocks-clocks.result (number_lists c.in_ok-needs.needs.items) (row_lists c.in_ok-rows.rows.items) _ _
    (st_func_tree c.in_ok-whole.whole) c.in_ok-needs.ensures
    (rw c.deref.ensures.value at c.in_ok-rows.ensures.budgets) c.in_ok-rows.ensures.plans
    (rw c.deref-2.ensures.value at c.in_ok-whole.ensures.instance)
    (c.in_ok-whole.ensures.key.0 ∙ (rw c.program.ensures.program at c.main_of-main.ensures.main)) c.in_ok-whole.ensures.key.1 c.in_ok-append.ensures.items)

pub returns-clause-layouts : goal.returns-clause-layouts
returns-clause-layouts c =
    rw (c.new.ensures, c.in_ok-append.ensures.items) (filled-more _
    (st_func_tree c.in_ok-whole.whole) c.in_ok-rows.ensures.plans.filled c.in_ok-whole.ensures.filled)

pub new-requires-clause-sound : goal.new-requires-clause-sound
new-requires-clause-sound c =
    schedule_sound (program_tree c.args.p.now) c.clocks-clocks.result _ c.program.ensures.is_formed c.program.ensures.accepted c.clocks-clocks.ensures.some
    c.clocks-clocks.ensures.most
    (schedule-of (program_tree c.args.p.now) c.clocks-clocks.result (number_lists c.in_ok-needs.needs.items) (row_lists c.in_ok-rows.rows.items) _ _
    (st_func_tree c.in_ok-whole.whole) c.in_ok-needs.ensures
    (rw c.deref.ensures.value at c.in_ok-rows.ensures.budgets) c.in_ok-rows.ensures.plans
    (rw c.deref-2.ensures.value at c.in_ok-whole.ensures.instance)
    (c.in_ok-whole.ensures.key.0 ∙ (rw c.program.ensures.program at c.main_of-main.ensures.main)) c.in_ok-whole.ensures.key.1 c.in_ok-append.ensures.items)
    (rw c.in_ok-append.ensures.items (filled-more _ (st_func_tree c.in_ok-whole.whole) c.in_ok-rows.ensures.plans.filled c.in_ok-whole.ensures.filled))

pub returns-clause-sound : goal.returns-clause-sound
returns-clause-sound c =
    rw c.new.ensures
    (schedule_sound (program_tree c.args.p.now) c.clocks-clocks.result _ c.program.ensures.is_formed c.program.ensures.accepted c.clocks-clocks.ensures.some
    c.clocks-clocks.ensures.most
    (schedule-of (program_tree c.args.p.now) c.clocks-clocks.result (number_lists c.in_ok-needs.needs.items) (row_lists c.in_ok-rows.rows.items) _ _
    (st_func_tree c.in_ok-whole.whole) c.in_ok-needs.ensures
    (rw c.deref.ensures.value at c.in_ok-rows.ensures.budgets) c.in_ok-rows.ensures.plans
    (rw c.deref-2.ensures.value at c.in_ok-whole.ensures.instance)
    (c.in_ok-whole.ensures.key.0 ∙ (rw c.program.ensures.program at c.main_of-main.ensures.main)) c.in_ok-whole.ensures.key.1
    c.in_ok-append.ensures.items)
    (rw c.in_ok-append.ensures.items (filled-more _ (st_func_tree c.in_ok-whole.whole) c.in_ok-rows.ensures.plans.filled c.in_ok-whole.ensures.filled)))
