use Rattle.std.proofs.Common.{ℕ, subst}
use Rattle.std.specs.Prelude.{string_bytes}
use Rattle.ae_seq.specs.ProgramTree.{program_tree}
use Rattle.ae_rewrite.specs.StProgramTree.{st_func_trees}
use Rattle.ae_stalled.specs.Laws.{stall_limit}
use Rattle.ae_compile.specs.Passes.{CostedView}
use Rattle.ae_compile.specs.Building.{IsBuiltStalled, IsStalledText}
use Rattle.ae_jobs.proofs.Refusals.{answered_refused}
use Rattle.ae_jobs.proofs.stall_job.stall.Goals as goal

pub compile_stalled-requires : goal.compile_stalled-requires
compile_stalled-requires c = c.in-Ok.ensures.known.light

pub returns-in_ok-text-in-Ok : goal.returns-in_ok-text-in-Ok
returns-in_ok-text-in-Ok c =
    let k = c.in-Ok.costed in
    let text = string_bytes c.in_ok-text-in-Ok.text in
    let here : IsStalledText (program_tree k.program) k.slowdown (st_func_trees k.schedule) text =
    subst (λ (x : CostedView). IsStalledText (program_tree x.program) x.slowdown (st_func_trees x.schedule) text) c.in_ok-compiled-in-Ok.ensures.of
    c.in_ok-text-in-Ok.ensures in
    record {
      program = program_tree k.program;
      instances = st_func_trees k.schedule;
      costed = c.in-Ok.ensures.costed;
      built = subst (λ (s : ℕ). IsStalledText (program_tree k.program) s (st_func_trees k.schedule) text) c.in-Ok.ensures.slowdown here;
    }

pub returns-in-Err : goal.returns-in-Err
returns-in-Err c =
    answered_refused c.refused_program.result c.in-Err.fault stall_limit
    (IsBuiltStalled c.args.part.now c.args.slowdown) c.args.part.now c.args.slowdown c.in-Err.ensures.refused c.refused_program.ensures.uncosted
