use Rattle.ae_spelled.proofs.laws.module_keeps.Goals as goal
use Rattle.ae_spelled.proofs.LawSame.{same_runs}
use Rattle.ae_spelled.proofs.ModulePorts.{are_ports}
use Rattle.ae_spelled.proofs.LawWeight.{light}
use Rattle.ae_spelled.proofs.LawFormed.{well_formed}

pub returns-clause-runs : goal.returns-clause-runs
returns-clause-runs c lines n outs ok = same_runs lines n.cells n.outlets outs ok n.limit

pub returns-clause-light : goal.returns-clause-light
returns-clause-light c lines n outs = light lines n.cells n.outlets outs

pub returns-clause-formed : goal.returns-clause-formed
returns-clause-formed c lines n outs ok small = well_formed lines n.cells n.outlets outs ok small

pub returns-clause-ports : goal.returns-clause-ports
returns-clause-ports c lines n outs ok = are_ports lines n outs ok
