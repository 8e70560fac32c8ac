use Rattle.ae_alike.proofs.laws.schedules_are_there.Goals as goal
use Rattle.ae_alike.proofs.There.{schedules_there}

pub returns : goal.returns
returns c = schedules_there
