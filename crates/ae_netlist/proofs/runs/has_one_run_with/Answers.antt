-- A netlist is formed, so it has exactly one run for rows and first words.
use Rattle.ae_netlist.proofs.Given.{one_run_with}
use Rattle.ae_netlist.proofs.runs.has_one_run_with.Goals as goal

pub returns : goal.returns
returns c = one_run_with _ c.formed.ensures.cells
