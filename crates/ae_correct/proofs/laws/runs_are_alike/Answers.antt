use Rattle.ae_correct.proofs.Alike.{fed_alike, runs_alike}
use Rattle.ae_correct.proofs.laws.runs_are_alike.Goals as goal

pub returns-clause-feeds : goal.returns-clause-feeds
returns-clause-feeds c = fed_alike

pub returns-clause-runs : goal.returns-clause-runs
returns-clause-runs c = runs_alike
