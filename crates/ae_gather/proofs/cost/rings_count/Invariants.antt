use Rattle.std.proofs.Common.{◌<◌, ◌≤◌, take}
use Rattle.ae_gather.specs.Reads.{ring_count}
use Rattle.ae_gather.proofs.cost.rings_count.Given as goal

abbrev pub invariant-loop-q : goal.invariant-loop-q
invariant-loop-q l = record {
  low : l.count ≤ ring_count (take l.q l.rings);
  high : l.count < 18446744073709551615 → ring_count (take l.q l.rings) ≤ l.count;
}
