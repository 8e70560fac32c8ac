-- The table of the gates.
use Rattle.ae_control.proofs.Tables.{gates_fit}
use Rattle.ae_control.proofs.driver.gates.Goals as goal

pub choices-requires-clause-choices : goal.choices-requires-clause-choices
choices-requires-clause-choices c = rw c.flag-newest.ensures (gates_fit c.args.nl.now.cells c.args.w c.args.at c.args.busy c.requires.here c.requires.bits)

pub returns : goal.returns
returns c = rw c.flag-newest.ensures at c.in_ok-choices.ensures
