-- A trip goes on with its column's last step, or makes a new one.
use Rattle.std.proofs.Common.{ℕ, ◌≡◌, ◌+◌, ◌<◌, length, map, slice_get, get_or, Some, IsTrue, arith, refl, sym, ap, ◌∙◌}
use Rattle.std.proofs.lemmas.List.{length-map}
use Rattle.std.proofs.lemmas.Option.{slice_get-get_or, slice_get_read, get_or_from_slice_get}
use Rattle.ae_moves.specs.declared.trip.Source.TheVariants.{Place}
use Rattle.ae_moves.specs.declared.trip.Trip.{Trip}
use Rattle.ae_columns.specs.declared.steps.Step.{Step}
use Rattle.ae_columns.specs.Plans.{choice_of, demanded}
use Rattle.ae_moves.specs.Trees.{choice_tree, trip_tree}
use Rattle.ae_gather.proofs.Delays.{ages_more, ages_none, column_le, delay_le, in_lines, none_sum, taps_more}
use Rattle.ae_moves.proofs.Lists.{get_mapped}
use Rattle.ae_gather.proofs.Planning.{next_step, planned_none, planned_same, planned_more, plan_whole}
use Rattle.ae_gather.proofs.Counting.{choice_at, choice_is, counted_none, counted_same, counted_more, counts_whole, runs_sum, tree_same}
use Rattle.ae_gather.proofs.plan.planned.Goals as goal
use Rattle.ae_gather.proofs.plan.planned.Goals.{then-not-ends_in+in_ok-tap+in_ok-add, else-not-ends_in}

abbrev no_trip : Trip
no_trip = record { clock = 0; column = 0; source = Place 0 0 }

pub loop-trip-init : goal.loop-trip-init
loop-trip-init c =
    let lines = c.in_ok-lines.ensures in
    let columns = c.in_ok-columns.ensures in
    let none = none_sum c.in_ok-lines.lines.items lines.none in
    record {
      plan = planned_none _ _ _ _ _ _ lines.long columns.long lines.none columns.none;
      runs = counted_none _ _ _ columns.none;
      ages = ages_none _ _ _ lines.none;
      taps = omega (arith, none);
    }

pub choice-choice-requires-clause-clock : goal.choice-choice-requires-clause-clock
choice-choice-requires-clause-clock c =
    c.requires.within.clock c.loop-trip.trip-index _ (slice_get-get_or c.args.trips.now c.loop-trip.trip-index no_trip c.loop-trip-test.true)

pub choice-choice-requires-clause-reached : goal.choice-choice-requires-clause-reached
choice-choice-requires-clause-reached c =
    c.requires.within.reached c.loop-trip.trip-index _ (slice_get-get_or c.args.trips.now c.loop-trip.trip-index no_trip c.loop-trip-test.true)

pub index-requires : goal.index-requires
index-requires c =
    let in_column = c.requires.within.column c.loop-trip.trip-index _
    (slice_get-get_or c.args.trips.now c.loop-trip.trip-index no_trip c.loop-trip-test.true) in
    omega (arith, in_column, c.loop-trip.invariant.plan.outs_all)

pub index_mut-requires : goal.index_mut-requires
index_mut-requires c =
    let in_column = c.requires.within.column c.loop-trip.trip-index _
    (slice_get-get_or c.args.trips.now c.loop-trip.trip-index no_trip c.loop-trip-test.true) in
    omega (arith, in_column, c.loop-trip.invariant.plan.outs_all)

pub demand-requires : goal.demand-requires
demand-requires c =
    let i : ℕ = c.loop-trip.trip-index in
    let trip : Trip = get_or c.args.trips.now i no_trip in
    let at : slice_get c.args.trips.now i ≡ Some trip = slice_get-get_or c.args.trips.now i no_trip c.loop-trip-test.true in
    let small : i < 4294967295 = omega (arith, c.loop-trip-test.true, c.requires.few) in
    rw c.choice-choice.ensures (in_lines c.args.d i c.args.ins trip.clock c.loop-trip.lines.items trip.source
    (c.requires.within.source i trip at) c.loop-trip.invariant.plan.ins_all small c.loop-trip.invariant.plan.few)

pub loop-trip-preserved : goal.loop-trip-preserved
loop-trip-preserved c =
    let i : ℕ = c.loop-trip.trip-index in
    let trip : Trip = get_or c.args.trips.now i no_trip in
    let at : slice_get c.args.trips.now i ≡ Some trip = slice_get-get_or c.args.trips.now i no_trip c.loop-trip-test.true in
    let tree : slice_get (map trip_tree c.args.trips.now) i ≡ Some (trip_tree trip) = get_mapped trip_tree c.args.trips.now i trip at in
    let col : trip.column < length c.loop-trip.columns.items = omega (arith, c.requires.within.column i trip at, c.loop-trip.invariant.plan.outs_all) in
    elim c.if-not-ends_in.branch [
      | then-not-ends_in+in_ok-tap+in_ok-add w ↦
          let there = slice_get_read c.loop-trip.columns.items
          (length c.loop-trip.columns.items) trip.column w.index_mut.result.now refl col w.index_mut.ensures.value in
          let asked : demanded c.loop-trip.lines.items (choice_of c.args.d trip) w.demand.new.lines.items w.in_ok-tap.tap = rw c.choice-choice.ensures at
          w.in_ok-tap.ensures in
          let more = planned_more _ _ _ _ _ _ _ _ trip _ _ c.requires.order c.loop-trip.invariant.plan at there asked in
          let value : c.index.result.now ≡ w.index_mut.result.now = sym
          (get_or_from_slice_get c.loop-trip.columns.items trip.column _ c.index.result.now
          (slice_get_read c.loop-trip.columns.items (length c.loop-trip.columns.items) trip.column c.index.result.now refl col c.index.ensures)) ∙
          get_or_from_slice_get c.loop-trip.columns.items trip.column _ c.index.result.now there in
          let other : ((k : ℕ) × (s : Step) × (length w.index_mut.result.now ≡ k + 1) × (slice_get w.index_mut.result.now k ≡ Some s)
          × (choice_tree s.take ≡ choice_at c.args.d (trip_tree trip))) → ⊥ =
          λ x. (let b : IsTrue c.ends_in.result = c.ends_in.ensures.1
          (rw (value, c.choice-choice.ensures) (x.0, x.1, x.2, x.3, tree_same _ _ (x.4 ∙ sym (choice_is c.args.d trip)))) in
          let f = w.if-not-ends_in.true in cc) in
          let count = counted_more c.args.d (map trip_tree c.args.trips.now) i c.loop-trip.columns.items (trip_tree trip) _
          (next_step c.args.d w.in_ok-tap.tap trip) c.loop-trip.invariant.runs tree there (choice_is c.args.d trip) other in
          let taps = taps_more _ _ _ w.in_ok-tap.tap trip.column c.loop-trip.columns.items _
          (next_step c.args.d w.in_ok-tap.tap trip) asked there c.loop-trip.invariant.taps in
          record {
            plan = rw (w.lines-is, w.columns-is, w.in_ok-add.ensures, c.choice-choice.ensures) more;
            runs = rw (w.columns-is, w.in_ok-add.ensures, c.choice-choice.ensures) count;
            ages = rw w.lines-is (ages_more c.args.d i w.in_ok-tap.tap c.args.trips.now _ _ trip at asked c.loop-trip.invariant.ages);
            taps = rw (w.lines-is, w.columns-is, w.in_ok-add.ensures, c.choice-choice.ensures) taps;
          }
      | else-not-ends_in w ↦
          let there = slice_get_read c.loop-trip.columns.items (length c.loop-trip.columns.items) trip.column c.index.result.now refl col c.index.ensures in
          let last = c.ends_in.ensures.0 w.if-not-ends_in.false in
          let takes : last.1.take ≡ choice_of c.args.d trip = rw c.choice-choice.ensures at last.4 in
          record {
            plan = rw (w.lines-is, w.columns-is) (planned_same _ _ _ _ _ _ _ trip _ last.0 last.1 c.requires.order c.loop-trip.invariant.plan at there last.2
                last.3 takes);
            runs = rw (w.columns-is) (counted_same c.args.d (map trip_tree c.args.trips.now) i c.loop-trip.columns.items
                (trip_tree trip) _ last.0 last.1 c.loop-trip.invariant.runs tree there last.2 last.3 (ap choice_tree takes ∙ choice_is c.args.d trip));
            ages = rw w.lines-is c.loop-trip.invariant.ages;
            taps = rw (w.lines-is, w.columns-is) c.loop-trip.invariant.taps;
          }
    ]

pub returns-clause-plan : goal.returns-clause-plan
returns-clause-plan c = plan_whole _ _ _ _ _ _ _ (omega (arith, c.loop-trip-test.false)) c.loop-trip.invariant.plan

pub returns-clause-few : goal.returns-clause-few
returns-clause-few c = λ q ages found. omega (arith, c.loop-trip.invariant.plan.few q ages found, c.loop-trip.auto.trip-index-end)

pub returns-clause-runs : goal.returns-clause-runs
returns-clause-runs c =
    runs_sum c.args.d c.args.outs (map trip_tree c.args.trips.now) c.loop-trip.columns.items c.loop-trip.invariant.plan.outs_all
    (counts_whole _ _ _ _ (omega (arith, c.loop-trip-test.false, length-map c.args.trips.now trip_tree)) c.loop-trip.invariant.runs)

pub returns-clause-delay : goal.returns-clause-delay
returns-clause-delay c = delay_le c.args.d c.args.ins c.args.trips.now c.loop-trip.lines.items c.loop-trip.invariant.plan.ins_all c.loop-trip.invariant.ages

pub returns-clause-ages : goal.returns-clause-ages
returns-clause-ages c = λ q ages found. column_le c.args.d q c.args.trips.now ages (λ j age f. c.loop-trip.invariant.ages.each q j age ages found f)
