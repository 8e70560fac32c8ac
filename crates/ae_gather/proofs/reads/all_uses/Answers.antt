-- One trip more.
use Rattle.std.proofs.Common.{◌∙◌}
use Rattle.std.proofs.lemmas.Option.{slice_get-get_or}
use Rattle.ae_moves.specs.declared.trip.Source.TheVariants.{Place}
use Rattle.ae_moves.specs.declared.trip.Trip.{Trip}
use Rattle.ae_gather.proofs.reads.all_uses.Goals as goal

abbrev no_trip : Trip
no_trip = record { clock = 0; column = 0; source = Place 0 0 }

pub use_more-requires-clause-clock : goal.use_more-requires-clause-clock
use_more-requires-clause-clock c =
    c.requires.within.clock c.loop-trip.trip-index _ (slice_get-get_or c.args.trips.now c.loop-trip.trip-index no_trip c.loop-trip-test.true)

pub use_more-requires-clause-column : goal.use_more-requires-clause-column
use_more-requires-clause-column c =
    rw c.loop-trip.invariant.long (c.requires.within.column c.loop-trip.trip-index _
    (slice_get-get_or c.args.trips.now c.loop-trip.trip-index no_trip c.loop-trip-test.true))

pub use_more-requires-clause-source : goal.use_more-requires-clause-source
use_more-requires-clause-source c =
    c.requires.within.source c.loop-trip.trip-index _ (slice_get-get_or c.args.trips.now c.loop-trip.trip-index no_trip c.loop-trip-test.true)

pub loop-trip-preserved : goal.loop-trip-preserved
loop-trip-preserved c = record { long = c.use_more.ensures ∙ c.loop-trip.invariant.long }
