use Rattle.ae_columns.proofs.Choosing.{constant_sources}
use Rattle.ae_columns.proofs.choices.source.Goals as goal

pub returns-in_ok-y-in-Constant-clause-source : goal.returns-in_ok-y-in-Constant-clause-source
returns-in_ok-y-in-Constant-clause-source c =
    rw c.in-Constant.is (constant_sources _ _ _ _ _ _ _ c.in_ok-y-in-Constant.ensures.net c.in_ok-y-in-Constant.ensures.words)
