-- There are the leading ones and the others.
use Rattle.std.proofs.Common.{arith}
use Rattle.ae_netlist.proofs.FirstNets.{length_from_first}
use Rattle.ae_netlist.proofs.input_nets.InputNets.len.Goals as goal

pub returns : goal.returns
returns c = rw (← c.self.view_is, length_from_first c.self.inside.leading c.self.inside.others.items) (grind (arith, c.len.ensures))
