use Rattle.std.proofs.Common.{[]}
use Rattle.ae_netlist.specs.declared.cell.Port.TheVariants.{In}
use Rattle.ae_sttype.specs.StTree.{st_tree}
use Rattle.ae_ops.specs.Blocks.{stream_of}
use Rattle.ae_ports.specs.Ports.{lane_ports}
use Rattle.ae_lower.specs.PortNets.{AddsInputs}
use Rattle.ae_lower.proofs.ports.param_inputs.Given as goal

abbrev pub invariant-loop-lane : goal.invariant-loop-lane
invariant-loop-lane l = AddsInputs l.fn.nl l.nl [] l.nets.items (lane_ports (In l.param) (stream_of (st_tree l.layout)).widths l.lane)
