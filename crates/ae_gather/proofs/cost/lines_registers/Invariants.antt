use Rattle.std.proofs.Common.{◌<◌, ◌≤◌, sum_by, take}
use Rattle.ae_gather.specs.Counts.{line_registers}
use Rattle.ae_gather.proofs.cost.lines_registers.Given as goal

abbrev pub invariant-loop-q : goal.invariant-loop-q
invariant-loop-q l = record {
  low : l.count ≤ sum_by line_registers (take l.q l.lines);
  high : l.count < 18446744073709551615 → sum_by line_registers (take l.q l.lines) ≤ l.count;
}
