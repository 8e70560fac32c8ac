use Rattle.ae_correct.proofs.laws.circuits_are_writable.Goals as goal
use Rattle.ae_correct.proofs.Written.{writable}

pub returns : goal.returns
returns c = writable
