use Rattle.std.proofs.Common.{◌≡◌, take}
use Rattle.ae_sttype.specs.Moves.{TripTree, greatest, lead_from}
use Rattle.ae_moves.specs.Trees.{trip_trees}
use Rattle.ae_moves.proofs.costs.trips_latency.Given as goal

abbrev pub invariant-loop-trip : goal.invariant-loop-trip
invariant-loop-trip l = l.most ≡ greatest (λ (t : TripTree). lead_from t.clock t.source) (take l.trip-index (trip_trees l.trips))
