use Rattle.std.proofs.Common.{◌≡◌, ◌-◌, ◌∙◌, length, ap, sym}
use Rattle.std.specs.Prelude.{string_bytes}
use Rattle.std.proofs.lemmas.Option.{none-some, same_Some}
use Rattle.ae_seq.specs.ProgramTree.{program_tree, func_tree}
use Rattle.ae_rewrite.specs.StProgramTree.{st_func_tree, st_func_trees}
use Rattle.ae_compile.specs.Costing.{arrivals_in, load_limit, main_costing, whole_costs}
use Rattle.ae_compile.proofs.Made.{known_costs}
use Rattle.ae_compile.proofs.Mains.{main_items}
use Rattle.ae_jobs.proofs.Plans.{arrivals_there, main_arrivals_many, main_text}
use Rattle.ae_jobs.proofs.plan_job.planned.Goals as goal

pub unreachable-requires : goal.unreachable-requires
unreachable-requires c =
    let k = c.args.costed.now in
    let there = ap (arrivals_in (c.count-last.result - 1)) c.costs-costs.ensures.is ∙
    arrivals_there load_limit (program_tree k.program) k.slowdown k.schedule k.costs c.count-last.result
    (c.count-last.ensures.count ∙ ap length c.schedule.ensures.is) c.costs-costs.ensures.known in
    let none = rw c.in-None.is at c.arrivals.ensures in
    none-some _ (none ∙ there)

pub plan_text-requires-clause-instance : goal.plan_text-requires-clause-instance
plan_text-requires-clause-instance c =
    let all = st_func_trees c.args.costed.now.schedule in
    main_items (program_tree c.args.costed.now.program) c.args.costed.now.slowdown all (func_tree c.main_func-func.result.now)
    (st_func_tree c.main_instance-instance.result.now)
    c.main_func-func.ensures.formed c.costs-costs.ensures.known.schedule c.costs-costs.ensures.known.sound c.main_func-func.ensures.last
    c.main_instance-instance.ensures.last

pub plan_text-requires-clause-arrivals : goal.plan_text-requires-clause-arrivals
plan_text-requires-clause-arrivals c =
    let k = c.args.costed.now in
    let p = program_tree k.program in
    let all = st_func_trees k.schedule in
    let f = func_tree c.main_func-func.result.now in
    let s = st_func_tree c.main_instance-instance.result.now in
    let there = ap (arrivals_in (c.count-last.result - 1)) c.costs-costs.ensures.is ∙
    arrivals_there load_limit p k.slowdown k.schedule k.costs c.count-last.result
    (c.count-last.ensures.count ∙ ap length c.schedule.ensures.is) c.costs-costs.ensures.known in
    let some = rw c.in-Some.is at c.arrivals.ensures in
    let same : c.in-Some.arrivals.now ≡ (main_costing p all).arrivals = same_Some _ _ (some ∙ there) in
    let items = main_items p k.slowdown all f s c.main_func-func.ensures.formed c.costs-costs.ensures.known.schedule c.costs-costs.ensures.known.sound
    c.main_func-func.ensures.last c.main_instance-instance.ensures.last in
    sym (ap length same ∙ main_arrivals_many p all f s c.main_func-func.ensures.last c.main_instance-instance.ensures.last items)

pub returns : goal.returns
returns c =
    let k = c.args.costed.now in
    let p = program_tree k.program in
    let all = st_func_trees k.schedule in
    let s = st_func_tree c.main_instance-instance.result.now in
    let there = ap (arrivals_in (c.count-last.result - 1)) c.costs-costs.ensures.is ∙
    arrivals_there load_limit p k.slowdown k.schedule k.costs c.count-last.result
    (c.count-last.ensures.count ∙ ap length c.schedule.ensures.is) c.costs-costs.ensures.known in
    let some = rw c.in-Some.is at c.arrivals.ensures in
    let same : c.in-Some.arrivals.now ≡ (main_costing p all).arrivals = same_Some _ _ (some ∙ there) in
    main_text p k.slowdown all (func_tree c.main_func-func.result.now) s (whole_costs k.costs) c.in-Some.arrivals.now (string_bytes c.in_ok-text.text)
    c.main_func-func.ensures.last c.main_instance-instance.ensures.last (known_costs load_limit p k.slowdown all k.costs c.costs-costs.ensures.known) same
    (rw (c.slowdown.ensures, c.costs-costs.ensures.is) at c.in_ok-text.ensures)
