-- From the last trip back to the first.
use Rattle.std.proofs.Common.{◌-◌, length, arith}
use Rattle.std.proofs.lemmas.Option.{slice_get-get_or}
use Rattle.ae_moves.specs.declared.trip.Source.TheVariants.{Place}
use Rattle.ae_moves.specs.declared.trip.Trip.{Trip}
use Rattle.ae_gather.proofs.Rereads.{below_push}
use Rattle.ae_gather.proofs.places.first_places.Goals as goal

abbrev no_trip : Trip
no_trip = record { clock = 0; column = 0; source = Place 0 0 }

pub loop-q-preserved : goal.loop-q-preserved
loop-q-preserved c =
    let below = c.loop-q.invariant.below in
    record {
      long = omega (arith, c.in_ok-push.ensures.len, c.loop-q.invariant.long);
      below = λ q. rw c.in_ok-push.ensures.items (below_push c.loop-q.last.items 0 _ q (omega (arith, below 0)) below);
    }

pub next_place-requires-clause-clock : goal.next_place-requires-clause-clock
next_place-requires-clause-clock c =
    c.requires.within.clock (length c.args.trips.now - 1 - c.loop-i.i) _
    (slice_get-get_or c.args.trips.now (length c.args.trips.now - 1 - c.loop-i.i) no_trip (omega (arith, c.loop-i-test.true)))

pub next_place-requires-clause-reached : goal.next_place-requires-clause-reached
next_place-requires-clause-reached c =
    c.requires.within.reached (length c.args.trips.now - 1 - c.loop-i.i) _
    (slice_get-get_or c.args.trips.now (length c.args.trips.now - 1 - c.loop-i.i) no_trip (omega (arith, c.loop-i-test.true)))

pub next_place-requires-clause-source : goal.next_place-requires-clause-source
next_place-requires-clause-source c =
    c.requires.within.source (length c.args.trips.now - 1 - c.loop-i.i) _
    (slice_get-get_or c.args.trips.now (length c.args.trips.now - 1 - c.loop-i.i) no_trip (omega (arith, c.loop-i-test.true)))

pub next_place-requires-clause-out : goal.next_place-requires-clause-out
next_place-requires-clause-out c =
    c.requires.within.column (length c.args.trips.now - 1 - c.loop-i.i) _
    (slice_get-get_or c.args.trips.now (length c.args.trips.now - 1 - c.loop-i.i) no_trip (omega (arith, c.loop-i-test.true)))
