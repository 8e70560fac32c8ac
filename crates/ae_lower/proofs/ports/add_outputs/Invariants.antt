use Rattle.std.proofs.Common.{◌*◌, take}
use Rattle.ae_netlist.specs.declared.cell.Port.TheVariants.{Out}
use Rattle.ae_sttype.specs.StTree.{st_tree}
use Rattle.ae_ops.specs.Blocks.{stream_of}
use Rattle.ae_ports.specs.Ports.{lane_ports}
use Rattle.ae_lower.specs.PortNets.{AddsOutputs}
use Rattle.ae_lower.proofs.ports.add_outputs.Given as goal

abbrev pub invariant-loop-lane : goal.invariant-loop-lane
invariant-loop-lane l = AddsOutputs l.fn.nl l.nl (lane_ports (Out l.number) (stream_of (st_tree l.layout)).widths l.lane) (take (l.lane * l.words) l.nets)
