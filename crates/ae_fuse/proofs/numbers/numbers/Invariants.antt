use Rattle.std.proofs.Common.{◌≡◌, ◌≤◌}
use Rattle.std.specs.List.{range_with_len}
use Rattle.ae_fuse.proofs.numbers.numbers.Given as goal

abbrev pub invariant-loop-k : goal.invariant-loop-k
invariant-loop-k l = record {
  own : l.own.items ≡ range_with_len l.first l.k;
  within : l.k ≤ l.count;
}
