use Rattle.std.proofs.Common.{◌∙◌, sym, ap, max, take}
use Rattle.ae_sttype.specs.Moves.{TripTree, greatest, lead_from}
use Rattle.ae_moves.specs.Trees.{trip_trees}
use Rattle.ae_moves.proofs.Ages.{greatest_more}
use Rattle.ae_moves.proofs.Enough.{least, enough, all-of}
use Rattle.ae_moves.proofs.Trees.{tree-at, inside}
use Rattle.ae_moves.proofs.costs.trips_latency.Goals as goal

pub loop-trip-preserved : goal.loop-trip-preserved
loop-trip-preserved c =
    let ts = trip_trees c.args.trips.now in
    let i = c.loop-trip.trip-index in
    let is = tree-at c.args.trips.now i _ c.loop-trip-test.true in
    let more = greatest_more (λ (t : TripTree). lead_from t.clock t.source) ts i _ (inside c.args.trips.now i c.loop-trip-test.true) in
    c.max-most.ensures
    ∙ ap (λ x. max x c.lead.result) c.loop-trip.invariant
    ∙ ap (max (greatest (λ (t : TripTree). lead_from t.clock t.source) (take i ts))) (c.lead.ensures ∙ ap (λ (t : TripTree). lead_from t.clock t.source) is)
    ∙ sym more

pub returns-clause-least : goal.returns-clause-least
returns-clause-least c = λ d ins outs all.
    let is = c.loop-trip.invariant ∙ all-of c.args.trips.now c.loop-trip.trip-index c.loop-trip-test.false in
    rw is (least c.args.trips.now d ins outs all)

pub returns-clause-enough : goal.returns-clause-enough
returns-clause-enough c = λ d ins outs all.
    let is = c.loop-trip.invariant ∙ all-of c.args.trips.now c.loop-trip.trip-index c.loop-trip-test.false in
    rw is (enough c.args.trips.now d ins outs all)
