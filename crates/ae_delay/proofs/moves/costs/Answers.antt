use Rattle.std.proofs.Common.{◌≡◌, ◌∙◌, map, length, ap, arith}
use Rattle.ae_sttype.specs.StTree.{st_tree}
use Rattle.ae_moves.specs.Trees.{origin_tree, trip_tree}
use Rattle.ae_moves.specs.Origins.{Move, move_trips}
use Rattle.ae_moves.proofs.Words.{latency_small, trips_few}
use Rattle.ae_delay.proofs.Small.{costs_small, trips_within}
use Rattle.ae_delay.proofs.moves.costs.Goals as goal

pub move_costs-requires-clause-latency : goal.move_costs-requires-clause-latency
move_costs-requires-clause-latency c = omega (arith, c.latency-d.ensures, latency_small _ c.requires.moves)

pub move_costs-requires-clause-few : goal.move_costs-requires-clause-few
move_costs-requires-clause-few c = omega (arith, trips_few _ c.in_ok-trips.trips.items c.requires.moves c.in_ok-trips.ensures, ap length c.deref.ensures.value)

pub move_costs-requires-clause-within : goal.move_costs-requires-clause-within
move_costs-requires-clause-within c =
    rw c.deref.ensures.value (trips_within _ c.in_ok-trips.trips.items _ _ _ c.latency-d.ensures c.requires.columns c.columns_in-outs.ensures.columns
    c.requires.moves c.in_ok-trips.ensures)

pub returns-clause-small : goal.returns-clause-small
returns-clause-small c =
    let m : Move = record { ins = map st_tree c.args.ins.now; out = st_tree c.args.out.now; origins = map origin_tree c.args.source.now } in
    let trips : map trip_tree c.deref.result.now ≡ move_trips m = ap (map trip_tree) c.deref.ensures.value ∙ c.in_ok-trips.ensures in
    rw c.from.ensures (costs_small m c.deref.result.now _ _ _ _ _ _ _ c.requires.moves c.requires.few c.latency-d.ensures c.requires.columns
    c.columns_in-outs.ensures.columns c.time.ensures trips c.in_ok-costs.ensures.delay c.in_ok-costs.ensures.runs c.in_ok-costs.ensures.mems)
