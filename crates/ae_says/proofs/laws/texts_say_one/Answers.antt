use Rattle.ae_says.proofs.laws.texts_say_one.Goals as goal
use Rattle.ae_says.proofs.Once.{once}

pub returns : goal.returns
returns c = once
