use Rattle.ae_moves.specs.Trees.{trip_trees}
use Rattle.std.proofs.lemmas.List.{length-map}
use Rattle.ae_moves.proofs.Ages.{ages_step, ages_all}
use Rattle.ae_moves.proofs.Trees.{tree-at, inside}
use Rattle.ae_moves.proofs.costs.all_ages.Goals as goal

pub loop-trip-preserved : goal.loop-trip-preserved
loop-trip-preserved c =
    rw c.deepen.ensures
    (ages_step c.args.d c.args.ins (trip_trees c.args.trips.now) c.loop-trip.trip-index c.loop-trip.deepest.items _ c.loop-trip.invariant
    (inside c.args.trips.now c.loop-trip.trip-index c.loop-trip-test.true) (tree-at c.args.trips.now c.loop-trip.trip-index _ c.loop-trip-test.true)
    (c.requires.within c.loop-trip.trip-index _ c.loop-trip-test.true).reached)

pub returns : goal.returns
returns c =
    ages_all c.args.d c.args.ins (trip_trees c.args.trips.now) c.loop-trip.trip-index c.loop-trip.deepest.items c.loop-trip.invariant
    (rw length-map c.loop-trip-test.false)
