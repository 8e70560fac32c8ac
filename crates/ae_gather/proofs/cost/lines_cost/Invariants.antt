use Rattle.std.proofs.Common.{◌<◌, ◌≤◌, take, sum_by}
use Rattle.ae_clocked.specs.Delays.{line_cells}
use Rattle.ae_gather.proofs.cost.lines_cost.Given as goal

abbrev pub invariant-loop-q : goal.invariant-loop-q
invariant-loop-q l = record {
  low : l.cost ≤ sum_by line_cells (take l.q l.lines);
  high : l.cost < 18446744073709551615 → sum_by line_cells (take l.q l.lines) ≤ l.cost;
}
