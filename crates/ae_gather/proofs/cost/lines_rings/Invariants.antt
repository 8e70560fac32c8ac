use Rattle.std.proofs.Common.{◌<◌, ◌≤◌, take, sum_by}
use Rattle.ae_columns.specs.Plans.{line_mems}
use Rattle.ae_gather.proofs.cost.lines_rings.Given as goal

abbrev pub invariant-loop-q : goal.invariant-loop-q
invariant-loop-q l = record {
  low : l.count ≤ sum_by line_mems (take l.q l.lines);
  high : l.count < 18446744073709551615 → sum_by line_mems (take l.q l.lines) ≤ l.count;
}
