use Rattle.std.proofs.Common.{◌≤◌, ◌*◌, List, flat_map, length, map, take}
use Rattle.ae_netlist.specs.declared.cell.NetId.{NetId}
use Rattle.ae_ports.specs.Ports.{output_ports}
use Rattle.ae_lower.specs.PortNets.{AddsOutputs}
use Rattle.ae_fuse.specs.Lowered.{result_stream}
use Rattle.ae_fuse.proofs.lowering.show_results.Given as goal

abbrev pub invariant-loop-k : goal.invariant-loop-k
invariant-loop-k l = record {
  within : l.k ≤ length l.results;
  outputs : AddsOutputs l.fn.nl l.nl (output_ports (map result_stream (take l.k l.results))) (flat_map (λ (b : List NetId). b) (take l.k l.bundles));
  few : length l.nl.outlets ≤ l.k * 16384;
}
