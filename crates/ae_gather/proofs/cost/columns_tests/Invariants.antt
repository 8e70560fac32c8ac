use Rattle.std.proofs.Common.{◌<◌, ◌≤◌, sum_by, take}
use Rattle.ae_columns.specs.Counts.{steps_tests}
use Rattle.ae_gather.proofs.cost.columns_tests.Given as goal

abbrev pub invariant-loop-q : goal.invariant-loop-q
invariant-loop-q l = record {
  low : l.count ≤ sum_by steps_tests (take l.q l.columns);
  high : l.count < 18446744073709551615 → sum_by steps_tests (take l.q l.columns) ≤ l.count;
}
