use Rattle.std.proofs.Common.{◌++◌, List, take}
use Rattle.ae_vmodule.specs.ModuleTree.{NetTree}
use Rattle.ae_verilog.specs.PortNets.{HasNets, input_ports}
use Rattle.ae_verilog.proofs.interface.PortList.push_inputs.Given as goal

abbrev pub invariant-loop-packed : goal.invariant-loop-packed
invariant-loop-packed l = (before : List NetTree) → HasNets before l.fn.self → HasNets (before ++ input_ports (take l.packed-index l.cells)) l.self
