use Rattle.std.specs.Prelude.{string_bytes}
use Rattle.std.proofs.lemmas.Result.{IfOk-weaker}
use Rattle.ae_seq.specs.ProgramTree.{program_tree}
use Rattle.ae_fields.specs.Rows.{rows}
use Rattle.ae_jobs.specs.declared.reply.Reply.{Reply}
use Rattle.ae_jobs.specs.EvalTexts.{IsEvalOf, IsEvaluated, Ran, Refused}
use Rattle.ae_jobs.proofs.Refusals.{untyped}
use Rattle.ae_jobs.proofs.eval_job.eval.Goals as goal

pub returns-in-Ok : goal.returns-in-Ok
returns-in-Ok c =
    IfOk-weaker c.evaluate.result (λ (r : Reply). IsEvalOf (program_tree c.in-Ok.p) (rows c.args.rest.now) r.status (string_bytes r.text))
    (λ (r : Reply). IsEvaluated c.args.part.now (rows c.args.rest.now) r.status (string_bytes r.text))
    (λ r w. Ran (program_tree c.in-Ok.p) c.in-Ok.ensures.typed w) c.evaluate.ensures

pub returns-in-Err : goal.returns-in-Err
returns-in-Err c =
    untyped c.refused_program.result c.in-Err.fault c.args.part.now
    (λ (r : Reply). IsEvaluated c.args.part.now (rows c.args.rest.now) r.status (string_bytes r.text)) c.in-Err.ensures.refused
    (λ r w e. Refused w e) c.refused_program.ensures.untyped
