use Rattle.std.proofs.Common.{◌<◌, ◌≤◌, sum_by, take}
use Rattle.ae_gather.specs.Counts.{reader_registers}
use Rattle.ae_gather.proofs.cost.readers_count.Given as goal

abbrev pub invariant-loop-q : goal.invariant-loop-q
invariant-loop-q l = record {
  low : l.count ≤ sum_by (reader_registers l.reads.rings.items) (take l.q l.reads.from.items);
  high : l.count < 18446744073709551615 → sum_by (reader_registers l.reads.rings.items) (take l.q l.reads.from.items) ≤ l.count;
}
