use Rattle.std.proofs.Common.{◌≤◌, ◌*◌, List, flat_map, length, map, take}
use Rattle.ae_netlist.specs.declared.cell.NetId.{NetId}
use Rattle.ae_rewrite.specs.StProgramTree.{st_func_tree}
use Rattle.ae_lower.specs.Circuits.{item_stream}
use Rattle.ae_ports.specs.Ports.{output_ports}
use Rattle.ae_lower.specs.PortNets.{AddsOutputs}
use Rattle.ae_lower.proofs.ports.add_results.Given as goal

abbrev pub invariant-loop-number : goal.invariant-loop-number
invariant-loop-number l = record {
  outputs : AddsOutputs l.fn.nl l.nl (output_ports (map (item_stream (st_func_tree l.s)) (take l.number l.s.results.items)))
      (flat_map (λ (b : List NetId). b) (take l.number l.bundles));
  few : length l.nl.outlets ≤ l.number * 16384;
}
