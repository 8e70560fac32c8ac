use Rattle.ae_correct.proofs.Built.{correct}
use Rattle.ae_correct.proofs.laws.circuits_are_correct.Goals as goal

pub returns : goal.returns
returns c = correct
