use Rattle.std.proofs.lemmas.List.{length-map}
use Rattle.ae_moves.specs.Trees.{trip_trees}
use Rattle.ae_moves.proofs.Held.{usages_all, usages_step}
use Rattle.ae_moves.proofs.Trees.{tree-at, inside}
use Rattle.ae_moves.proofs.mems.all_usages.Goals as goal

pub loop-trip-preserved : goal.loop-trip-preserved
loop-trip-preserved c =
    rw c.take_word.ensures
    (usages_step c.args.period c.args.d c.args.ins (trip_trees c.args.trips.now) c.loop-trip.trip-index c.loop-trip.usages.items _ c.loop-trip.invariant
    (inside c.args.trips.now c.loop-trip.trip-index c.loop-trip-test.true) (tree-at c.args.trips.now c.loop-trip.trip-index _ c.loop-trip-test.true)
    (c.requires.within c.loop-trip.trip-index _ c.loop-trip-test.true).reached)

pub returns : goal.returns
returns c =
    usages_all c.args.period c.args.d c.args.ins (trip_trees c.args.trips.now) c.loop-trip.trip-index c.loop-trip.usages.items c.loop-trip.invariant
    (rw length-map c.loop-trip-test.false)
