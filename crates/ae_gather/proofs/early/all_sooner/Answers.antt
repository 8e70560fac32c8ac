-- One trip more.
use Rattle.std.proofs.Common.{◌++◌, ◌∷◌, [], ap, get_or}
use Rattle.std.proofs.lemmas.List.{map_more}
use Rattle.std.proofs.lemmas.Option.{slice_get-get_or}
use Rattle.ae_moves.specs.declared.trip.Source.TheVariants.{Place}
use Rattle.ae_moves.specs.declared.trip.Trip.{Trip}
use Rattle.ae_columns.specs.Early.{hastened}
use Rattle.ae_gather.proofs.early.all_sooner.Goals as goal

abbrev no_trip : Trip
no_trip = record { clock = 0; column = 0; source = Place 0 0 }

pub sooner-requires-clause-column : goal.sooner-requires-clause-column
sooner-requires-clause-column c =
    c.requires.columns c.loop-trip.trip-index _ (slice_get-get_or c.args.trips.now c.loop-trip.trip-index no_trip c.loop-trip-test.true)

pub sooner-requires-clause-reached : goal.sooner-requires-clause-reached
sooner-requires-clause-reached c =
    c.requires.reached c.loop-trip.trip-index _ (slice_get-get_or c.args.trips.now c.loop-trip.trip-index no_trip c.loop-trip-test.true)

pub sooner-requires-clause-clock : goal.sooner-requires-clause-clock
sooner-requires-clause-clock c =
    c.requires.clocks c.loop-trip.trip-index _ (slice_get-get_or c.args.trips.now c.loop-trip.trip-index no_trip c.loop-trip-test.true)

pub loop-trip-preserved : goal.loop-trip-preserved
loop-trip-preserved c = record {
  moved = rw (
    c.in_ok-push.ensures.items,
    c.sooner.ensures,
    map_more (hastened c.args.early.now) c.args.trips.now c.loop-trip.trip-index no_trip c.loop-trip-test.true,
  )
      (ap (λ v. v ++ hastened c.args.early.now (get_or c.args.trips.now c.loop-trip.trip-index no_trip) ∷ []) c.loop-trip.invariant.moved);
}
