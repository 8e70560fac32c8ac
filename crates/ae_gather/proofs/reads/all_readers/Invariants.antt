use Rattle.std.proofs.Common.{◌≡◌, length}
use Rattle.ae_gather.proofs.reads.all_readers.Given as goal

abbrev pub invariant-loop-trip : goal.invariant-loop-trip
invariant-loop-trip l = record {
  counts : length l.counts.items ≡ l.ins;
  seen : length l.seen.items ≡ length l.uses;
}
