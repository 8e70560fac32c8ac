use Rattle.std.proofs.Common.{◌<◌, ◌≤◌, length, sum_by, take}
use Rattle.ae_gather.proofs.cost.columns_steps.Given as goal

abbrev pub invariant-loop-q : goal.invariant-loop-q
invariant-loop-q l = record {
  low : l.count ≤ sum_by length (take l.q l.columns);
  high : l.count < 18446744073709551615 → sum_by length (take l.q l.columns) ≤ l.count;
}
