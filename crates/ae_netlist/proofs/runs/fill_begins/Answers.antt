-- A fill fits, modulo 2 to the width.
use Rattle.ae_netlist.proofs.Given.{fill_begins_so}
use Rattle.ae_netlist.proofs.runs.fill_begins.Goals as goal

pub returns : goal.returns
returns c = fill_begins_so _ _
