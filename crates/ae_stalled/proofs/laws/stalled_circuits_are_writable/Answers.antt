use Rattle.ae_stalled.proofs.Written.{stalled_writable}
use Rattle.ae_stalled.proofs.laws.stalled_circuits_are_writable.Goals as goal

pub returns : goal.returns
returns c = stalled_writable
