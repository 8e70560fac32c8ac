use Rattle.std.proofs.Common.{◌∙◌, ℕ, List, map, length, slice_get, ap, arith}
use Rattle.std.proofs.lemmas.List.{length-map}
use Rattle.ae_sttype.specs.StTree.{st_tree}
use Rattle.ae_moves.specs.Trees.{origin_tree, trip_tree}
use Rattle.ae_moves.specs.Origins.{Move}
use Rattle.ae_moves.proofs.Words.{latency_small, trips_few}
use Rattle.ae_delay.proofs.Small.{trips_within}
use Rattle.ae_results.proofs.CostSteps.{costs-are}
use Rattle.ae_results.proofs.SmallMoves.{is-small}
use Rattle.ae_results.proofs.costs.result_costs.Goals as goal

pub all_trips-requires-clause-firsts : goal.all_trips-requires-clause-firsts
all_trips-requires-clause-firsts c i low =
    ap (λ (fs : List ℕ). slice_get fs i) c.deref.ensures.value ∙ c.requires.columns.each i (omega (arith, low, length-map c.args.ins.now st_tree))

pub move_costs-requires-clause-latency : goal.move_costs-requires-clause-latency
move_costs-requires-clause-latency c = omega (arith, c.latency-d.ensures, latency_small _ c.requires.moves)

pub move_costs-requires-clause-few : goal.move_costs-requires-clause-few
move_costs-requires-clause-few c =
    omega (arith, trips_few _ c.in_ok-trips.trips.items c.requires.moves c.in_ok-trips.ensures, ap length c.deref-2.ensures.value)

pub move_costs-requires-clause-within : goal.move_costs-requires-clause-within
move_costs-requires-clause-within c =
    rw c.deref-2.ensures.value (trips_within _ c.in_ok-trips.trips.items _ _ _ c.latency-d.ensures c.requires.columns.all c.columns_in-outs.ensures.columns
    c.requires.moves c.in_ok-trips.ensures)

pub overflow_add-result-2 : goal.overflow_add-result-2
overflow_add-result-2 c =
    let m : Move = record { ins = map st_tree c.args.ins.now; out = st_tree c.args.out.now; origins = map origin_tree c.args.source.now } in
    let e = costs-are m c.deref-2.result.now _ _ _ _ _ _ _ c.latency-d.ensures c.requires.columns.all c.columns_in-outs.ensures.columns c.time.ensures
    (ap (map trip_tree) c.deref-2.ensures.value ∙ c.in_ok-trips.ensures) c.in_ok-costs.ensures.delay c.in_ok-costs.ensures.runs
    c.in_ok-costs.ensures.mems in
    let small = is-small m c.requires.moves (omega (arith, c.requires.columns.all, c.requires.columns.few)) in
    omega (arith, e.0, small.delay, small.latency, c.latency-d.ensures, c.from.ensures)

pub overflow_add-result-3 : goal.overflow_add-result-3
overflow_add-result-3 c =
    let m : Move = record { ins = map st_tree c.args.ins.now; out = st_tree c.args.out.now; origins = map origin_tree c.args.source.now } in
    let e = costs-are m c.deref-2.result.now _ _ _ _ _ _ _ c.latency-d.ensures c.requires.columns.all c.columns_in-outs.ensures.columns c.time.ensures
    (ap (map trip_tree) c.deref-2.ensures.value ∙ c.in_ok-trips.ensures) c.in_ok-costs.ensures.delay c.in_ok-costs.ensures.runs
    c.in_ok-costs.ensures.mems in
    let small = is-small m c.requires.moves (omega (arith, c.requires.columns.all, c.requires.columns.few)) in
    omega (arith, e.0, e.1, small.delay, small.runs, small.latency, c.latency-d.ensures, c.from.ensures)

pub returns : goal.returns
returns c =
    let m : Move = record { ins = map st_tree c.args.ins.now; out = st_tree c.args.out.now; origins = map origin_tree c.args.source.now } in
    let e = costs-are m c.deref-2.result.now _ _ _ _ _ _ _ c.latency-d.ensures c.requires.columns.all c.columns_in-outs.ensures.columns c.time.ensures
    (ap (map trip_tree) c.deref-2.ensures.value ∙ c.in_ok-trips.ensures) c.in_ok-costs.ensures.delay c.in_ok-costs.ensures.runs
    c.in_ok-costs.ensures.mems in
    let small = is-small m c.requires.moves (omega (arith, c.requires.columns.all, c.requires.columns.few)) in
    record {
      latency = c.latency-d.ensures;
      load = omega (arith, e.0, e.1, c.latency-d.ensures, c.from.ensures);
      mems = e.2;
      columns = c.columns_in-outs.ensures.columns;
      light = record {
        latency = omega (arith, small.latency, c.latency-d.ensures);
        load = omega (arith, e.0, e.1, small.delay, small.runs, small.latency, c.latency-d.ensures, c.from.ensures);
        mems = omega (arith, e.2, small.mems, small.delay);
        columns = c.columns_in-outs.ensures.few;
      };
    }
