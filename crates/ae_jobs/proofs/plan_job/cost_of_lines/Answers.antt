use Rattle.ae_compile.specs.Costing.{load_limit}
use Rattle.ae_jobs.specs.CostTables.{table_text}
use Rattle.ae_jobs.specs.Schedules.{IsCostText}
use Rattle.ae_jobs.proofs.Refusals.{answered_refused}
use Rattle.ae_jobs.proofs.plan_job.cost_of_lines.Goals as goal

pub returns-in-Err : goal.returns-in-Err
returns-in-Err c =
    answered_refused c.refused_program.result c.in-Err.fault load_limit
    (IsCostText table_text c.args.part.now c.args.slowdown) c.args.part.now c.args.slowdown c.in-Err.ensures.refused c.refused_program.ensures.uncosted
