use Rattle.std.proofs.Common.{◌≡◌, ℕ, subst}
use Rattle.std.specs.Prelude.{string_bytes}
use Rattle.ae_seq.specs.ProgramTree.{program_tree}
use Rattle.ae_rewrite.specs.StProgramTree.{st_func_trees}
use Rattle.ae_compile.specs.Mains.{HasMain}
use Rattle.ae_compile.specs.Costing.{load_limit}
use Rattle.ae_jobs.specs.PlanTexts.{plan_text}
use Rattle.ae_jobs.specs.Schedules.{IsCostText}
use Rattle.ae_jobs.proofs.Refusals.{answered_refused}
use Rattle.ae_jobs.proofs.plan_job.plan.Goals as goal

pub returns-in_ok-text-in-Ok : goal.returns-in_ok-text-in-Ok
returns-in_ok-text-in-Ok c =
    let p = program_tree c.in-Ok.costed.program in
    let all = st_func_trees c.in-Ok.costed.schedule in
    let text = string_bytes c.in_ok-text-in-Ok.text in
    record {
      program = p;
      instances = all;
      costed = c.in-Ok.ensures.costed;
      written = subst (λ (s : ℕ). HasMain p all (λ f r ts. text ≡ plan_text s p f r ts)) c.in-Ok.ensures.slowdown c.in_ok-text-in-Ok.ensures;
    }

pub returns-in-Err : goal.returns-in-Err
returns-in-Err c =
    answered_refused c.refused_program.result c.in-Err.fault load_limit
    (IsCostText (plan_text c.args.slowdown) c.args.part.now c.args.slowdown) c.args.part.now c.args.slowdown c.in-Err.ensures.refused
    c.refused_program.ensures.uncosted
