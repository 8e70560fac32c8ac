use Rattle.ae_runs.proofs.Guarded.{guards_do}
use Rattle.ae_runs.proofs.laws.guards_do.Goals as goal

pub returns : goal.returns
returns c = guards_do
