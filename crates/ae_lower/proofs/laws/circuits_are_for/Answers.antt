use Rattle.ae_lower.proofs.Programs.{circuits_for}
use Rattle.ae_lower.proofs.laws.circuits_are_for.Goals as goal

pub returns : goal.returns
returns c = circuits_for
