-- One trip more.
use Rattle.std.proofs.Common.{◌∙◌}
use Rattle.std.proofs.lemmas.Option.{slice_get-get_or}
use Rattle.ae_moves.specs.declared.trip.Source.TheVariants.{Place}
use Rattle.ae_moves.specs.declared.trip.Trip.{Trip}
use Rattle.ae_gather.proofs.reads.all_readers.Goals as goal

abbrev no_trip : Trip
no_trip = record { clock = 0; column = 0; source = Place 0 0 }

pub reader_more-requires-clause-clock : goal.reader_more-requires-clause-clock
reader_more-requires-clause-clock c =
    c.requires.within.clock c.loop-trip.trip-index _ (slice_get-get_or c.args.trips.now c.loop-trip.trip-index no_trip c.loop-trip-test.true)

pub reader_more-requires-clause-column : goal.reader_more-requires-clause-column
reader_more-requires-clause-column c =
    c.requires.within.column c.loop-trip.trip-index _ (slice_get-get_or c.args.trips.now c.loop-trip.trip-index no_trip c.loop-trip-test.true)

pub reader_more-requires-clause-source : goal.reader_more-requires-clause-source
reader_more-requires-clause-source c =
    rw c.loop-trip.invariant.counts (c.requires.within.source c.loop-trip.trip-index _
    (slice_get-get_or c.args.trips.now c.loop-trip.trip-index no_trip c.loop-trip-test.true))

pub loop-trip-preserved : goal.loop-trip-preserved
loop-trip-preserved c = record {
  counts = c.reader_more.ensures.counts ∙ c.loop-trip.invariant.counts;
  seen = c.reader_more.ensures.seen ∙ c.loop-trip.invariant.seen;
}
