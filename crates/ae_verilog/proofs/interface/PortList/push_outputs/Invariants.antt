use Rattle.std.proofs.Common.{◌++◌, List, map, take}
use Rattle.ae_vmodule.specs.ModuleTree.{NetTree}
use Rattle.ae_verilog.specs.NetlistModule.{output_net}
use Rattle.ae_verilog.specs.PortNets.{HasNets}
use Rattle.ae_verilog.proofs.interface.PortList.push_outputs.Given as goal

abbrev pub invariant-loop-outlet : goal.invariant-loop-outlet
invariant-loop-outlet l =
    (before : List NetTree) → HasNets before l.fn.self → HasNets (before ++ map (output_net l.cells l.outs) (take l.outlet-index l.outlets)) l.self
