use Rattle.ae_demo.proofs.Accepted.{demos_accepted}
use Rattle.ae_demo.proofs.demos_are_accepted.Goals as goal

pub returns : goal.returns
returns c = demos_accepted
