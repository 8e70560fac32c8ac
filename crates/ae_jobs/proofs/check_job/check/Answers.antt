use Rattle.ae_jobs.proofs.Refusals.{checked_refused}
use Rattle.ae_jobs.proofs.check_job.check.Goals as goal

pub returns-in-Err : goal.returns-in-Err
returns-in-Err c = checked_refused c.refused_program.result c.in-Err.fault c.args.part.now c.in-Err.ensures.refused c.refused_program.ensures.untyped
