use Rattle.std.proofs.Common.{ℕ, subst}
use Rattle.std.specs.Prelude.{string_bytes}
use Rattle.std.proofs.lemmas.Result.{IfOk-weaker}
use Rattle.ae_seq.specs.ProgramTree.{program_tree}
use Rattle.ae_rewrite.specs.StProgramTree.{st_func_trees}
use Rattle.ae_fields.specs.Rows.{rows}
use Rattle.ae_compile.specs.Costing.{load_limit}
use Rattle.ae_jobs.specs.declared.reply.Reply.{Reply}
use Rattle.ae_jobs.specs.RunTexts.{IsPlayed, IsRunOf, Played, Unbuilt}
use Rattle.ae_jobs.proofs.Refusals.{uncosted}
use Rattle.ae_jobs.proofs.run_job.run.Goals as goal

pub returns-in-Ok : goal.returns-in-Ok
returns-in-Ok c =
    let p = program_tree c.in-Ok.costed.program in
    let all = st_func_trees c.in-Ok.costed.schedule in
    let table = rows c.args.rest.now in
    IfOk-weaker c.run_rows.result (λ (r : Reply). IsRunOf c.args.form c.args.fill p c.in-Ok.costed.slowdown all table r.status (string_bytes r.text))
    (λ (r : Reply). IsPlayed c.args.form c.args.slowdown c.args.fill c.args.part.now table r.status (string_bytes r.text))
    (λ r w. Played p all c.in-Ok.ensures.costed (subst (λ (s : ℕ). IsRunOf c.args.form c.args.fill p s all table r.status (string_bytes r.text))
    c.in-Ok.ensures.slowdown w)) c.run_rows.ensures

pub returns-in-Err : goal.returns-in-Err
returns-in-Err c =
    uncosted c.refused_program.result c.in-Err.fault load_limit c.args.part.now c.args.slowdown
    (λ (r : Reply). IsPlayed c.args.form c.args.slowdown c.args.fill c.args.part.now (rows c.args.rest.now) r.status (string_bytes r.text))
    c.in-Err.ensures.refused
    (λ r w e. Unbuilt w e) c.refused_program.ensures.uncosted
