use Rattle.std.proofs.Common.{◌≡◌, ◌≤◌, ◌+◌, ◌*◌, length}
use Rattle.ae_netlist.specs.Circuit.{IsNet}
use Rattle.ae_netlist.specs.Counts.{is_input, count_of}
use Rattle.bench_calls.proofs.stepping.circuit.Given as goal

abbrev pub invariant-loop-made : goal.invariant-loop-made
invariant-loop-made l = record {
  left : IsNet l.nl.cells l.pair.left.0 16;
  right : IsNet l.nl.cells l.pair.right.0 16;
  inputs : count_of is_input l.nl.cells ≡ 0;
  outlets : length l.nl.outlets ≡ 0;
  cells : length l.nl.cells ≤ 2 + 3 * l.made;
  limit : l.nl.limit ≡ 10000000;
}
