-- One trip more.
use Rattle.std.proofs.Common.{◌++◌, ◌∷◌, [], ap, get_or}
use Rattle.std.proofs.lemmas.List.{map_more}
use Rattle.std.proofs.lemmas.Option.{slice_get-get_or}
use Rattle.ae_moves.specs.declared.trip.Source.TheVariants.{Place}
use Rattle.ae_moves.specs.declared.trip.Trip.{Trip}
use Rattle.ae_columns.specs.Held.{settled}
use Rattle.ae_columns.proofs.held.all_settled.Goals as goal

abbrev no_trip : Trip
no_trip = record { clock = 0; column = 0; source = Place 0 0 }

pub settled-requires-clause-clock : goal.settled-requires-clause-clock
settled-requires-clause-clock c =
    c.requires.clocks c.loop-trip.trip-index _ (slice_get-get_or c.args.trips.now c.loop-trip.trip-index no_trip c.loop-trip-test.true)

pub settled-requires-clause-column : goal.settled-requires-clause-column
settled-requires-clause-column c =
    c.requires.columns c.loop-trip.trip-index _ (slice_get-get_or c.args.trips.now c.loop-trip.trip-index no_trip c.loop-trip-test.true)

pub loop-trip-preserved : goal.loop-trip-preserved
loop-trip-preserved c = record {
  moved = rw (
    c.in_ok-push.ensures.items,
    c.settled.ensures,
    map_more (settled c.args.d c.args.held.now) c.args.trips.now c.loop-trip.trip-index no_trip c.loop-trip-test.true,
  )
      (ap (λ v. v ++ settled c.args.d c.args.held.now (get_or c.args.trips.now c.loop-trip.trip-index no_trip) ∷ []) c.loop-trip.invariant.moved);
}
