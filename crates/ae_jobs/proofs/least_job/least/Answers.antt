use Rattle.std.specs.Prelude.{string_bytes}
use Rattle.std.proofs.lemmas.Result.{IfOk-weaker}
use Rattle.ae_seq.specs.ProgramTree.{program_tree}
use Rattle.ae_jobs.specs.declared.reply.Reply.{Reply}
use Rattle.ae_jobs.specs.LeastAnswers.{IsLeast, IsLeastOf, Told, Untold}
use Rattle.ae_jobs.proofs.Refusals.{untyped}
use Rattle.ae_jobs.proofs.least_job.least.Goals as goal

pub returns-in-Ok : goal.returns-in-Ok
returns-in-Ok c =
    IfOk-weaker c.least_of.result (λ (r : Reply). IsLeastOf (program_tree c.in-Ok.p) c.args.slowdown r.status (string_bytes r.text))
    (λ (r : Reply). IsLeast c.args.part.now c.args.slowdown r.status (string_bytes r.text))
    (λ r w. Told (program_tree c.in-Ok.p) c.in-Ok.ensures.typed w) c.least_of.ensures

pub returns-in-Err : goal.returns-in-Err
returns-in-Err c =
    untyped c.refused_program.result c.in-Err.fault c.args.part.now
    (λ (r : Reply). IsLeast c.args.part.now c.args.slowdown r.status (string_bytes r.text)) c.in-Err.ensures.refused
    (λ r w e. Untold w e) c.refused_program.ensures.untyped
