use Rattle.ae_correct.proofs.laws.runs_are_shown.Goals as goal
use Rattle.ae_correct.proofs.Shown.{shown}

pub returns : goal.returns
returns c = shown
