use Rattle.std.proofs.Common.{◌≡◌, ◌<◌, ◌^◌, ℕ, length, get_or}
use Rattle.ae_gather.specs.Reads.{ArePlaced}
use Rattle.ae_gather.proofs.places.all_places.Given as goal

abbrev pub invariant-loop-trip : goal.invariant-loop-trip
invariant-loop-trip l = record {
  long : length l.last.items ≡ length l.reads.from.items;
  below : (q : ℕ) → get_or l.last.items q 0 < 2 ^ l.reads.bits;
  placed : ArePlaced l.trip-index l.d l.reads l.trips l.all.items;
}
