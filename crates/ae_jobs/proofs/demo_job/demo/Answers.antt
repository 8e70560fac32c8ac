use Rattle.std.proofs.Common.{ℕ, List, length, arith, ap, subst, ◌∙◌}
use Rattle.ae_seq.specs.ProgramTree.{program_tree}
use Rattle.ae_rewrite.specs.StProgramTree.{st_func_trees}
use Rattle.ae_compile.specs.Costing.{IsCostFault, IsCosted, load_limit}
use Rattle.ae_jobs.specs.DemoTexts.{demo_program, demo_slowdown}
use Rattle.ae_jobs.proofs.DemoFits.{demo_has_costs}
use Rattle.ae_jobs.proofs.Demos.{short_program}
use Rattle.ae_jobs.proofs.Accepted.{only_memory}
use Rattle.ae_jobs.proofs.demo_job.demo.Goals as goal

pub cost-requires-clause-part : goal.cost-requires-clause-part
cost-requires-clause-part c = omega (arith, short_program c.args.size c.requires.limit, ap length (c.as_bytes.ensures.value ∙ c.in_ok-part.ensures))

pub demo_text-requires-clause-costed : goal.demo_text-requires-clause-costed
demo_text-requires-clause-costed c =
    subst (λ (part : List ℕ). IsCosted load_limit part (demo_slowdown c.args.size) (program_tree c.in-Ok.costed.program)
    (st_func_trees c.in-Ok.costed.schedule)) (c.as_bytes.ensures.value ∙ c.in_ok-part.ensures) (rw c.slowdown_of.ensures at c.in-Ok.ensures.costed)

pub memory_alone-requires : goal.memory_alone-requires
memory_alone-requires c =
    let n = c.args.size in
    let fits = c.demos_are_accepted.ensures n c.requires.some c.requires.limit in
    let refused = subst (λ (part : List ℕ). IsCostFault load_limit part (demo_slowdown n) c.in-Err.fault)
    (c.as_bytes.ensures.value ∙ c.in_ok-part.ensures) (rw c.slowdown_of.ensures at c.in-Err.ensures.refused) in
    only_memory load_limit (demo_program n) (demo_slowdown n) c.in-Err.fault (demo_has_costs n fits) refused
