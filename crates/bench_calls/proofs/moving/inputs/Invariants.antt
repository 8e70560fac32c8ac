use Rattle.std.proofs.Common.{◌≡◌, ◌≤◌, ◌+◌, length}
use Rattle.ae_netlist.specs.Circuit.{Extends}
use Rattle.bench_calls.proofs.Lanes.{AreLanes}
use Rattle.bench_calls.proofs.moving.inputs.Given as goal

abbrev pub invariant-loop-lane : goal.invariant-loop-lane
invariant-loop-lane l = record {
  extends : Extends l.fn.nl.cells l.nl.cells;
  cells : length l.nl.cells ≤ length l.fn.nl.cells + l.lane;
  limit : l.nl.limit ≡ l.fn.nl.limit;
  lanes : AreLanes l.nl.cells l.lane l.nets.items;
}
