use Rattle.ae_spelled.proofs.Renamed.{renamed_runs, renamed_formed}
use Rattle.ae_spelled.proofs.laws.names_are_free.Goals as goal

pub returns-clause-runs : goal.returns-clause-runs
returns-clause-runs c title m n same = renamed_runs title m n same

pub returns-clause-formed : goal.returns-clause-formed
returns-clause-formed c title m formed = renamed_formed title m formed
