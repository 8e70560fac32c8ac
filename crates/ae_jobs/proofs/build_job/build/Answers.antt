use Rattle.std.proofs.Common.{ℕ, subst}
use Rattle.std.specs.Prelude.{string_bytes}
use Rattle.ae_seq.specs.ProgramTree.{program_tree}
use Rattle.ae_rewrite.specs.StProgramTree.{st_func_trees}
use Rattle.ae_compile.specs.Passes.{CostedView}
use Rattle.ae_compile.specs.Building.{IsBuiltText, IsModuleText}
use Rattle.ae_compile.specs.Costing.{load_limit}
use Rattle.ae_compile.proofs.Headlines.{headline_of}
use Rattle.ae_jobs.proofs.Refusals.{answered_refused}
use Rattle.ae_jobs.proofs.build_job.build.Goals as goal

pub returns-in_ok-text-in-Ok : goal.returns-in_ok-text-in-Ok
returns-in_ok-text-in-Ok c =
    let k = c.in-Ok.costed in
    let text = string_bytes c.in_ok-text-in-Ok.text in
    let here : IsModuleText (program_tree k.program) k.slowdown (st_func_trees k.schedule) text =
    subst (λ (x : CostedView). IsModuleText (program_tree x.program) x.slowdown (st_func_trees x.schedule) text) c.in_ok-compiled-in-Ok.ensures.of
    c.in_ok-text-in-Ok.ensures.text in
    let made : IsModuleText (program_tree k.program) c.args.slowdown (st_func_trees k.schedule) text = subst
    (λ (s : ℕ). IsModuleText (program_tree k.program) s (st_func_trees k.schedule) text) c.in-Ok.ensures.slowdown here in
    record {
      headline = headline_of c.args.part.now c.args.slowdown (program_tree k.program) (st_func_trees k.schedule) text c.in-Ok.ensures.costed made;
      program = program_tree k.program;
      instances = st_func_trees k.schedule;
      costed = c.in-Ok.ensures.costed;
      built = made;
    }

pub returns-in-Err : goal.returns-in-Err
returns-in-Err c =
    answered_refused c.refused_program.result c.in-Err.fault load_limit
    (IsBuiltText c.args.part.now c.args.slowdown) c.args.part.now c.args.slowdown c.in-Err.ensures.refused c.refused_program.ensures.uncosted
