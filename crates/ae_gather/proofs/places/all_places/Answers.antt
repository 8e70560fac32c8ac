-- One trip more.
use Rattle.std.proofs.Common.{ℕ, ◌≡◌, get_or, slice_get, Some, arith}
use Rattle.std.proofs.lemmas.Option.{slice_get-get_or}
use Rattle.ae_moves.specs.declared.trip.Source.TheVariants.{Place}
use Rattle.ae_moves.specs.declared.trip.Trip.{Trip}
use Rattle.ae_gather.proofs.Rereads.{placed_more}
use Rattle.ae_gather.proofs.places.all_places.Goals as goal

abbrev no_trip : Trip
no_trip = record { clock = 0; column = 0; source = Place 0 0 }

pub next_place-at-requires-clause-clock : goal.next_place-at-requires-clause-clock
next_place-at-requires-clause-clock c =
    c.requires.within.clock c.loop-trip.trip-index _ (slice_get-get_or c.args.trips.now c.loop-trip.trip-index no_trip c.loop-trip-test.true)

pub next_place-at-requires-clause-reached : goal.next_place-at-requires-clause-reached
next_place-at-requires-clause-reached c =
    c.requires.within.reached c.loop-trip.trip-index _ (slice_get-get_or c.args.trips.now c.loop-trip.trip-index no_trip c.loop-trip-test.true)

pub next_place-at-requires-clause-source : goal.next_place-at-requires-clause-source
next_place-at-requires-clause-source c =
    c.requires.within.source c.loop-trip.trip-index _ (slice_get-get_or c.args.trips.now c.loop-trip.trip-index no_trip c.loop-trip-test.true)

pub next_place-at-requires-clause-out : goal.next_place-at-requires-clause-out
next_place-at-requires-clause-out c =
    c.requires.within.column c.loop-trip.trip-index _ (slice_get-get_or c.args.trips.now c.loop-trip.trip-index no_trip c.loop-trip-test.true)

pub loop-trip-preserved : goal.loop-trip-preserved
loop-trip-preserved c =
    let i : ℕ = c.loop-trip.trip-index in
    let trip : Trip = get_or c.args.trips.now i no_trip in
    let at : slice_get c.args.trips.now i ≡ Some trip = slice_get-get_or c.args.trips.now i no_trip c.loop-trip-test.true in
    let more = placed_more i c.args.d c.next_place-at.result c.args.reads.now c.args.trips.now c.loop-trip.all.items trip at c.next_place-at.ensures.fits
    c.next_place-at.ensures.is c.loop-trip.invariant.placed in
    record {
      long = omega (arith, c.next_place-at.ensures.long, c.loop-trip.invariant.long);
      below = c.next_place-at.ensures.below;
      placed = rw (c.in_ok-push.ensures.items, c.from.ensures) more;
    }

pub next_place-at-requires-clause-long : goal.next_place-at-requires-clause-long
next_place-at-requires-clause-long c = c.loop-trip.invariant.long

pub next_place-at-requires-clause-below : goal.next_place-at-requires-clause-below
next_place-at-requires-clause-below c = c.loop-trip.invariant.below
