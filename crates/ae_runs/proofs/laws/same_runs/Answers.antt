use Rattle.ae_runs.proofs.laws.same_runs.Goals as goal
use Rattle.ae_runs.proofs.RealizedRuns.{realized}

pub returns : goal.returns
returns c m n at ok one r = realized m n at ok r one
