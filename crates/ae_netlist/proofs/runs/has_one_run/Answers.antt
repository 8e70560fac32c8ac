-- A netlist is formed, so it has exactly one run.
use Rattle.ae_netlist.proofs.OneRun.{one_run}
use Rattle.ae_netlist.proofs.runs.has_one_run.Goals as goal

pub returns : goal.returns
returns c = one_run _ c.formed.ensures.cells
