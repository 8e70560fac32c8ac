use Rattle.std.proofs.Common.{◌<◌, ◌≤◌, take, sum_by}
use Rattle.ae_columns.specs.Plans.{steps_cells}
use Rattle.ae_gather.proofs.cost.columns_cost.Given as goal

abbrev pub invariant-loop-q : goal.invariant-loop-q
invariant-loop-q l = record {
  low : l.cost ≤ sum_by steps_cells (take l.q l.columns);
  high : l.cost < 18446744073709551615 → sum_by steps_cells (take l.q l.columns) ≤ l.cost;
}
