use Rattle.std.proofs.Common.{◌≡◌, ◌≤◌, ◌+◌, ◌*◌, ◌++◌, length, map, take}
use Rattle.ae_rewrite.specs.StProgramTree.{st_trees}
use Rattle.ae_ports.specs.Ports.{streams_of, input_cell, input_ports}
use Rattle.ae_lower.specs.PortNets.{bundles_from}
use Rattle.ae_lower.proofs.ports.add_inputs.Given as goal

abbrev pub invariant-loop-k : goal.invariant-loop-k
invariant-loop-k l = record {
  cells : l.nl ≡ record l.fn.nl { cells = l.fn.nl.cells ++ map input_cell (input_ports (streams_of (st_trees (take l.k l.layouts)))) };
  bundles : l.bundles.items ≡ bundles_from (length l.fn.nl.cells) (streams_of (st_trees (take l.k l.layouts)));
  most : length l.nl.cells ≤ length l.fn.nl.cells + 16384 * l.k;
}
