use Rattle.std.proofs.Common.{◌≡◌, ◌<◌, ◌≤◌, ℕ, Some, slice_get}
use Rattle.ae_moves.specs.declared.trip.Trip.{Trip}
use Rattle.ae_gather.proofs.moving.limit_of.Given as goal

abbrev pub invariant-loop-trip : goal.invariant-loop-trip
invariant-loop-trip l = record {
  below : (n : ℕ) (trip : Trip) → n < l.trip-index → slice_get l.trips n ≡ Some trip → trip.clock < l.limit;
  limited : l.limit ≤ l.period;
}
