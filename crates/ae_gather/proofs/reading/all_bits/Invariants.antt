use Rattle.std.proofs.Common.{◌≡◌, ℕ, Some, length, slice_get}
use Rattle.ae_gather.proofs.reading.all_bits.Given as goal

abbrev pub invariant-loop-i : goal.invariant-loop-i
invariant-loop-i l = record {
  long : length l.all.items ≡ l.i;
  each : (q w : ℕ) → slice_get l.all.items q ≡ Some w → w ≡ l.bits;
}
