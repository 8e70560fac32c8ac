-- One trip more.
use Rattle.std.proofs.Common.{◌∙◌}
use Rattle.std.proofs.lemmas.Option.{slice_get-get_or}
use Rattle.ae_moves.specs.declared.trip.Source.TheVariants.{Place}
use Rattle.ae_moves.specs.declared.trip.Trip.{Trip}
use Rattle.ae_gather.proofs.reads.all_oldest.Goals as goal

abbrev no_trip : Trip
no_trip = record { clock = 0; column = 0; source = Place 0 0 }

pub grow-requires-clause-clock : goal.grow-requires-clause-clock
grow-requires-clause-clock c =
    c.requires.within.clock c.loop-trip.trip-index _ (slice_get-get_or c.args.trips.now c.loop-trip.trip-index no_trip c.loop-trip-test.true)

pub grow-requires-clause-source : goal.grow-requires-clause-source
grow-requires-clause-source c =
    rw c.loop-trip.invariant.long (c.requires.within.source c.loop-trip.trip-index _
    (slice_get-get_or c.args.trips.now c.loop-trip.trip-index no_trip c.loop-trip-test.true))

pub loop-trip-preserved : goal.loop-trip-preserved
loop-trip-preserved c = record { long = c.grow.ensures ∙ c.loop-trip.invariant.long }
