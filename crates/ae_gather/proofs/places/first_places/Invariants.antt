use Rattle.std.proofs.Common.{◌≡◌, ◌<◌, ◌^◌, ℕ, length, get_or}
use Rattle.ae_gather.proofs.places.first_places.Given as goal

abbrev pub invariant-loop-q : goal.invariant-loop-q
invariant-loop-q l = record {
  long : length l.last.items ≡ l.q;
  below : (q : ℕ) → get_or l.last.items q 0 < 2 ^ l.reads.bits;
}

abbrev pub invariant-loop-i : goal.invariant-loop-i
invariant-loop-i l = record {
  long : length l.last.items ≡ length l.reads.from.items;
  below : (q : ℕ) → get_or l.last.items q 0 < 2 ^ l.reads.bits;
}
