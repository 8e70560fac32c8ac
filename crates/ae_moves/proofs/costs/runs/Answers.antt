use Rattle.std.proofs.Common.{ap, ◌∙◌, arith, length, sum}
use Rattle.std.proofs.lemmas.List.{length-map}
use Rattle.ae_moves.specs.declared.trip.Source.TheVariants.{Place}
use Rattle.ae_moves.specs.Trees.{trip_trees}
use Rattle.ae_moves.proofs.Stretches.{runs_put, runs_all}
use Rattle.ae_moves.proofs.Trees.{tree-at, inside}
use Rattle.ae_moves.proofs.costs.runs.Goals as goal

pub loop-trip-preserved : goal.loop-trip-preserved
loop-trip-preserved c =
    runs_put c.args.d c.args.outs (trip_trees c.args.trips.now) c.loop-trip.trip-index c.loop-trip.last.items c.loop-trip.counts.items _
    c.index-before.result.now c.index-had.result.now c.choice-choice.result _
    c.loop-trip.invariant (inside c.args.trips.now c.loop-trip.trip-index c.loop-trip-test.true)
    (tree-at c.args.trips.now c.loop-trip.trip-index _ c.loop-trip-test.true)
    (c.requires.within c.loop-trip.trip-index _ c.loop-trip-test.true).column_in
    c.choice-choice.ensures c.index-before.ensures c.index-had.ensures (omega (arith, c.begun.ensures))

pub returns : goal.returns
returns c =
    c.total.ensures ∙ ap sum c.deref.ensures.value
    ∙ runs_all c.args.d c.args.outs (trip_trees c.args.trips.now) c.loop-trip.trip-index c.loop-trip.last.items c.loop-trip.counts.items c.loop-trip.invariant
    (rw length-map c.loop-trip-test.false)

pub index-before-requires : goal.index-before-requires
index-before-requires c =
    omega (
      arith,
      (c.requires.within c.loop-trip.trip-index (record { clock = 0; column = 0; source = Place 0 0 }) c.loop-trip-test.true).column_in,
      c.loop-trip.invariant.long_last,
      c.loop-trip.last.ok,
    )

pub index-had-requires : goal.index-had-requires
index-had-requires c =
    omega (
      arith,
      (c.requires.within c.loop-trip.trip-index (record { clock = 0; column = 0; source = Place 0 0 }) c.loop-trip-test.true).column_in,
      c.loop-trip.invariant.long,
      c.loop-trip.counts.ok,
    )

pub index_mut-requires : goal.index_mut-requires
index_mut-requires c =
    omega (
      arith,
      (c.requires.within c.loop-trip.trip-index (record { clock = 0; column = 0; source = Place 0 0 }) c.loop-trip-test.true).column_in,
      c.loop-trip.invariant.long_last,
      c.loop-trip.last.ok,
    )

pub index_mut-requires-in-loop-trip : goal.index_mut-requires-in-loop-trip
index_mut-requires-in-loop-trip c =
    omega (
      arith,
      (c.requires.within c.loop-trip.trip-index (record { clock = 0; column = 0; source = Place 0 0 }) c.loop-trip-test.true).column_in,
      c.loop-trip.invariant.long,
      c.loop-trip.counts.ok,
    )

pub total-requires : goal.total-requires
total-requires c = omega (arith, ap length c.deref.ensures.value, c.loop-trip.invariant.long, c.ranges.outs.fits)
