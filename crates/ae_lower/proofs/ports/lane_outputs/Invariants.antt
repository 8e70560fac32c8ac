use Rattle.std.proofs.Common.{take}
use Rattle.ae_netlist.specs.declared.cell.Port.TheVariants.{Out}
use Rattle.ae_ports.specs.Ports.{word_ports}
use Rattle.ae_lower.specs.PortNets.{AddsOutputs, net_widths}
use Rattle.ae_lower.proofs.ports.lane_outputs.Given as goal

abbrev pub invariant-loop-word : goal.invariant-loop-word
invariant-loop-word l = AddsOutputs l.fn.nl l.nl (word_ports (Out l.number l.lane) 0 (net_widths l.fn.nl.cells (take l.word l.nets))) (take l.word l.nets)
