use Rattle.std.proofs.Common.{◌≡◌, ◌-◌, ◌^◌, ◌≤◌}
use Rattle.ae_delay.specs.OwnCosts.{least_power, log_up}
use Rattle.ae_delay.proofs.own.levels_for.Given as goal

abbrev pub invariant-loop-count : goal.invariant-loop-count
invariant-loop-count l = record {
  leaves : l.leaves ≡ 2 ^ l.count;
  small : l.leaves ≤ 4096;
  levels : log_up l.lanes ≡ least_power l.lanes l.count (13 - l.count);
}
