use Rattle.ae_alike.proofs.laws.schedules_at_one.Goals as goal
use Rattle.ae_alike.proofs.AtOne.{schedules_at_one}

pub returns : goal.returns
returns c = schedules_at_one
