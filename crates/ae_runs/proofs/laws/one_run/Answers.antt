use Rattle.ae_runs.proofs.laws.one_run.Goals as goal
use Rattle.ae_runs.specs.PlainRun.{plain_run}
use Rattle.ae_runs.proofs.Once.{only_one}
use Rattle.ae_runs.proofs.Made.{plain_is_run}

pub returns-clause-once : goal.returns-clause-once
returns-clause-once c m ok given shaped =
    let made = plain_is_run m ok given shaped in
    (plain_run m given, made, λ other r t l. only_one m ok given (plain_run m given) other made r t l)

pub returns-clause-plain : goal.returns-clause-plain
returns-clause-plain c m ok given shaped = plain_is_run m ok given shaped
