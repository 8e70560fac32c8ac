-- One trip more.
use Rattle.std.proofs.Common.{◌++◌, ◌∷◌, [], ap, get_or}
use Rattle.std.proofs.lemmas.List.{map_more}
use Rattle.std.proofs.lemmas.Option.{slice_get-get_or}
use Rattle.ae_moves.specs.declared.trip.Source.TheVariants.{Place}
use Rattle.ae_moves.specs.declared.trip.Trip.{Trip}
use Rattle.ae_gather.specs.Reads.{read_trip}
use Rattle.ae_gather.proofs.places.all_read.Goals as goal

abbrev no_trip : Trip
no_trip = record { clock = 0; column = 0; source = Place 0 0 }

pub read_trip-requires-clause-clock : goal.read_trip-requires-clause-clock
read_trip-requires-clause-clock c =
    c.requires.within.clock c.loop-trip.trip-index _ (slice_get-get_or c.args.trips.now c.loop-trip.trip-index no_trip c.loop-trip-test.true)

pub read_trip-requires-clause-reached : goal.read_trip-requires-clause-reached
read_trip-requires-clause-reached c =
    c.requires.within.reached c.loop-trip.trip-index _ (slice_get-get_or c.args.trips.now c.loop-trip.trip-index no_trip c.loop-trip-test.true)

pub read_trip-requires-clause-source : goal.read_trip-requires-clause-source
read_trip-requires-clause-source c =
    c.requires.within.source c.loop-trip.trip-index _ (slice_get-get_or c.args.trips.now c.loop-trip.trip-index no_trip c.loop-trip-test.true)

pub read_trip-requires-clause-out : goal.read_trip-requires-clause-out
read_trip-requires-clause-out c =
    c.requires.within.column c.loop-trip.trip-index _ (slice_get-get_or c.args.trips.now c.loop-trip.trip-index no_trip c.loop-trip-test.true)

pub loop-trip-preserved : goal.loop-trip-preserved
loop-trip-preserved c = record {
  moved = rw (
    c.in_ok-push.ensures.items,
    c.read_trip.ensures,
    map_more (read_trip c.args.d c.args.reads.now) c.args.trips.now c.loop-trip.trip-index no_trip c.loop-trip-test.true,
  )
      (ap (λ v. v ++ read_trip c.args.d c.args.reads.now (get_or c.args.trips.now c.loop-trip.trip-index no_trip) ∷ []) c.loop-trip.invariant.moved);
}
