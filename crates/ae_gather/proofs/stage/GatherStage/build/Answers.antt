-- What a gather builds is what its trips ask for.
use Rattle.std.proofs.Common.{ℕ, ◌≡◌, length, map, arith, ap, ◌∙◌, ◌+◌, ◌*◌}
use Rattle.std.proofs.lemmas.List.{length-map}
use Rattle.ae_sttype.specs.StTree.{st_tree}
use Rattle.ae_sttype.proofs.Bounds.{time_pos}
use Rattle.ae_moves.specs.Trees.{trip_tree, origin_tree}
use Rattle.ae_moves.specs.Origins.{Move, move_trips}
use Rattle.ae_gather.specs.Gathers.{AreWidths, move_of}
use Rattle.ae_gather.specs.Joins.{AreJoined}
use Rattle.ae_moves.proofs.Words.{columns_small, trips_few, latency_small}
use Rattle.ae_gather.proofs.CodeLaws.{cells_as, columns_pos, counted_as, firsts_at, law_as, mems_as, nets_few, nets_long, used_as, within_as}
use Rattle.ae_gather.proofs.GatherLaw.{fitting, flat_nets, out_nets}
use Rattle.ae_gather.proofs.Typed.{in_order}
use Rattle.ae_sttype.specs.Moves.{delay_of, runs_of}
use Rattle.ae_gather.proofs.stage.GatherStage.build.Goals as goal

pub join-requires : goal.join-requires
join-requires c =
    let made = rw (← c.self.view_is) at c.requires.bundles in
    record { few = nets_few _ (map st_tree c.self.inside.ins.items) c.args.ins.now _ made c.self.invariant.move.types c.self.invariant.few }

pub all_trips-requires-clause-firsts : goal.all_trips-requires-clause-firsts
all_trips-requires-clause-firsts c = λ i l.
    let made = rw (← c.self.view_is) at c.requires.bundles in
    rw (c.deref.ensures.value, c.deref-2.ensures.value) (firsts_at _
    (map st_tree c.self.inside.ins.items) c.args.ins.now _ _ made c.in_ok-joined.ensures.joined i
    (omega (arith, l, length-map c.self.inside.ins.items st_tree, ap length c.deref.ensures.value)))

pub all_trips-requires-clause-room : goal.all_trips-requires-clause-room
all_trips-requires-clause-room c =
    let made = rw (← c.self.view_is) at c.requires.bundles in
    rw c.deref.ensures.value (omega (
      arith,
      nets_long _ (map st_tree c.self.inside.ins.items) c.args.ins.now _ _ made c.in_ok-joined.ensures.joined,
      c.in_ok-joined.ensures.few,
    ))

pub gather-requires-clause-lasting : goal.gather-requires-clause-lasting
gather-requires-clause-lasting c = omega (arith, c.time-period.ensures, time_pos (st_tree c.self.inside.out) c.self.invariant.move.out.lengths)

pub gather-requires-clause-latency : goal.gather-requires-clause-latency
gather-requires-clause-latency c =
    let d = rw (c.deref-4.ensures.value, c.deref-5.ensures.value) at c.latency-latency.ensures in
    omega (arith, d, latency_small _ c.self.invariant.move)

pub gather-requires-clause-few : goal.gather-requires-clause-few
gather-requires-clause-few c =
    let trips = rw (c.deref.ensures.value, c.deref-3.ensures.value) at c.in_ok-trips.ensures in
    omega (arith, trips_few _ c.in_ok-trips.trips.items c.self.invariant.move trips, ap length c.deref-8.ensures.value)

pub gather-requires-clause-few_ins : goal.gather-requires-clause-few_ins
gather-requires-clause-few_ins c = rw c.deref-6.ensures.value c.in_ok-joined.ensures.few

pub gather-requires-clause-few_outs : goal.gather-requires-clause-few_outs
gather-requires-clause-few_outs c =
    omega (arith, c.in_ok-widths.ensures.long, columns_small (st_tree c.self.inside.out) c.self.invariant.move.out, ap length c.deref-7.ensures.value)

pub gather-requires-clause-some : goal.gather-requires-clause-some
gather-requires-clause-some c =
    omega (arith, c.in_ok-widths.ensures.long, columns_pos (st_tree c.self.inside.out) c.self.invariant.move.out, ap length c.deref-7.ensures.value)

pub gather-requires-clause-nets : goal.gather-requires-clause-nets
gather-requires-clause-nets c =
    let made = rw (← c.self.view_is) at c.requires.bundles in
    rw c.deref-6.ensures.value (flat_nets _ (map st_tree c.self.inside.ins.items) c.args.ins.now _ _ made c.in_ok-joined.ensures.joined)

pub gather-requires-clause-order : goal.gather-requires-clause-order
gather-requires-clause-order c =
    let trips = rw (c.deref.ensures.value, c.deref-3.ensures.value) at c.in_ok-trips.ensures in
    rw c.deref-8.ensures.value (in_order (move_of (record {
      ins = c.self.inside.ins.items;
      out = c.self.inside.out;
      origins = map origin_tree c.self.inside.source.items;
    })) _ c.self.invariant.move.out trips)

pub gather-requires-clause-within : goal.gather-requires-clause-within
gather-requires-clause-within c =
    let made = rw (← c.self.view_is) at c.requires.bundles in
    let trips = rw (c.deref.ensures.value, c.deref-3.ensures.value) at c.in_ok-trips.ensures in
    let d = rw (c.deref-4.ensures.value, c.deref-5.ensures.value) at c.latency-latency.ensures in
    let nets = ap length c.deref-6.ensures.value ∙ nets_long _ (map st_tree c.self.inside.ins.items) c.args.ins.now _ _ made c.in_ok-joined.ensures.joined in
    let widths = ap length c.deref-7.ensures.value ∙ c.in_ok-widths.ensures.long in
    rw c.deref-8.ensures.value
    (within_as (move_of (record { ins = c.self.inside.ins.items; out = c.self.inside.out; origins = map origin_tree c.self.inside.source.items })) _ _ _ _ _
    c.time-period.ensures d nets widths c.self.invariant.move trips)

pub gather-requires-clause-used : goal.gather-requires-clause-used
gather-requires-clause-used c =
    let trips = rw (c.deref.ensures.value, c.deref-3.ensures.value) at c.in_ok-trips.ensures in
    let widths = ap length c.deref-7.ensures.value ∙ c.in_ok-widths.ensures.long in
    rw c.deref-8.ensures.value (used_as (move_of (record {
      ins = c.self.inside.ins.items;
      out = c.self.inside.out;
      origins = map origin_tree c.self.inside.source.items;
    })) _ _ widths c.self.invariant.move trips)

pub gather-requires-clause-fitting : goal.gather-requires-clause-fitting
gather-requires-clause-fitting c =
    let made = rw (← c.self.view_is) at c.requires.bundles in
    let trips = rw (c.deref.ensures.value, c.deref-3.ensures.value) at c.in_ok-trips.ensures in
    rw (c.deref-6.ensures.value, c.deref-7.ensures.value, c.deref-8.ensures.value)
    (fitting _ (move_of (record { ins = c.self.inside.ins.items; out = c.self.inside.out; origins = map origin_tree c.self.inside.source.items }))
    c.args.ins.now _ c.in_ok-joined.joined.firsts.items _ _ c.self.invariant.move made c.in_ok-joined.ensures.joined trips c.in_ok-widths.ensures.widths)

pub returns-clause-cells : goal.returns-clause-cells
returns-clause-cells c =
    let m : Move = move_of (record { ins = c.self.inside.ins.items; out = c.self.inside.out; origins = map origin_tree c.self.inside.source.items }) in
    let made = rw (← c.self.view_is) at c.requires.bundles in
    let trips : map trip_tree c.deref-8.result.now ≡ move_trips m = rw c.deref-8.ensures.value
    (rw (c.deref.ensures.value, c.deref-3.ensures.value) at c.in_ok-trips.ensures) in
    let d = rw (c.deref-4.ensures.value, c.deref-5.ensures.value) at c.latency-latency.ensures in
    let nets = ap length c.deref-6.ensures.value ∙ nets_long _ (map st_tree c.self.inside.ins.items) c.args.ins.now _ _ made c.in_ok-joined.ensures.joined in
    let widths = ap length c.deref-7.ensures.value ∙ c.in_ok-widths.ensures.long in
    rw (← c.self.view_is) (cells_as m c.deref-8.result.now _ _ _ _ _ d nets widths trips c.in_ok-nets.ensures.cells)

pub returns-clause-bundle : goal.returns-clause-bundle
returns-clause-bundle c =
    let m : Move = move_of (record { ins = c.self.inside.ins.items; out = c.self.inside.out; origins = map origin_tree c.self.inside.source.items }) in
    let widths = ap length c.deref-7.ensures.value ∙ c.in_ok-widths.ensures.long in
    let wide : AreWidths m.out c.deref-7.result.now = rw c.deref-7.ensures.value c.in_ok-widths.ensures.widths in
    rw (c.new.ensures, ← c.self.view_is) (out_nets _ m c.deref-7.result.now _ c.self.invariant.move c.in_ok-nets.ensures.long widths wide
    c.in_ok-nets.ensures.nets)

pub returns-clause-law : goal.returns-clause-law
returns-clause-law c =
    let m : Move = move_of (record { ins = c.self.inside.ins.items; out = c.self.inside.out; origins = map origin_tree c.self.inside.source.items }) in
    let made = rw (← c.self.view_is) at c.requires.bundles in
    let trips : map trip_tree c.deref-8.result.now ≡ move_trips m = rw c.deref-8.ensures.value
    (rw (c.deref.ensures.value, c.deref-3.ensures.value) at c.in_ok-trips.ensures) in
    let d = rw (c.deref-4.ensures.value, c.deref-5.ensures.value) at c.latency-latency.ensures in
    let nets = ap length c.deref-6.ensures.value ∙ nets_long _ (map st_tree c.self.inside.ins.items) c.args.ins.now _ _ made c.in_ok-joined.ensures.joined in
    let widths = ap length c.deref-7.ensures.value ∙ c.in_ok-widths.ensures.long in
    let joined : AreJoined c.args.ins.now c.deref-6.result.now c.in_ok-joined.joined.firsts.items = rw c.deref-6.ensures.value c.in_ok-joined.ensures.joined in
    rw (c.new.ensures, ← c.self.view_is)
    (law_as _ _ _ c.args.arrival m c.args.ins.now c.deref-6.result.now c.in_ok-joined.joined.firsts.items c.deref-8.result.now c.in_ok-nets.nets.items _ _ _
    c.time-period.ensures d c.in_ok-nets.ensures.long widths c.self.invariant.move made joined trips c.in_ok-nets.ensures.trips)

pub returns-clause-memories : goal.returns-clause-memories
returns-clause-memories c =
    let m : Move = move_of (record { ins = c.self.inside.ins.items; out = c.self.inside.out; origins = map origin_tree c.self.inside.source.items }) in
    let made = rw (← c.self.view_is) at c.requires.bundles in
    let trips : map trip_tree c.deref-8.result.now ≡ move_trips m = rw c.deref-8.ensures.value
    (rw (c.deref.ensures.value, c.deref-3.ensures.value) at c.in_ok-trips.ensures) in
    let d = rw (c.deref-4.ensures.value, c.deref-5.ensures.value) at c.latency-latency.ensures in
    let nets = ap length c.deref-6.ensures.value ∙ nets_long _ (map st_tree c.self.inside.ins.items) c.args.ins.now _ _ made c.in_ok-joined.ensures.joined in
    rw (← c.self.view_is) (mems_as m c.deref-8.result.now _ _ _ _ _ c.time-period.ensures d nets trips c.in_ok-nets.ensures.memories)

pub returns-clause-counted : goal.returns-clause-counted
returns-clause-counted c =
    let m : Move = move_of (record { ins = c.self.inside.ins.items; out = c.self.inside.out; origins = map origin_tree c.self.inside.source.items }) in
    let made = rw (← c.self.view_is) at c.requires.bundles in
    let trips : map trip_tree c.deref-8.result.now ≡ move_trips m = rw c.deref-8.ensures.value
    (rw (c.deref.ensures.value, c.deref-3.ensures.value) at c.in_ok-trips.ensures) in
    let d = rw (c.deref-4.ensures.value, c.deref-5.ensures.value) at c.latency-latency.ensures in
    let nets = ap length c.deref-6.ensures.value ∙ nets_long _ (map st_tree c.self.inside.ins.items) c.args.ins.now _ _ made c.in_ok-joined.ensures.joined in
    let widths = ap length c.deref-7.ensures.value ∙ c.in_ok-widths.ensures.long in
    rw (← c.self.view_is) (counted_as m c.deref-8.result.now _ _ _ _ _ _ _ _ c.time-period.ensures d nets widths trips c.in_ok-nets.ensures.counted)

pub gather-requires-clause-room : goal.gather-requires-clause-room
gather-requires-clause-room c =
    let m : Move = move_of (record { ins = c.self.inside.ins.items; out = c.self.inside.out; origins = map origin_tree c.self.inside.source.items }) in
    let made = rw (← c.self.view_is) at c.requires.bundles in
    let trips : map trip_tree c.deref-8.result.now ≡ move_trips m = rw c.deref-8.ensures.value
    (rw (c.deref.ensures.value, c.deref-3.ensures.value) at c.in_ok-trips.ensures) in
    let d = rw (c.deref-4.ensures.value, c.deref-5.ensures.value) at c.latency-latency.ensures in
    let nets = ap length c.deref-6.ensures.value ∙ nets_long _ (map st_tree c.self.inside.ins.items) c.args.ins.now _ _ made c.in_ok-joined.ensures.joined in
    let widths = ap length c.deref-7.ensures.value ∙ c.in_ok-widths.ensures.long in
    let all = rw (← c.self.view_is) at c.requires.room in
    let trees = map trip_tree c.deref-8.result.now in
    let cells : ℕ = 16 * (c.latency-latency.result + delay_of c.latency-latency.result (length c.deref-6.result.now) trees + runs_of c.latency-latency.result
    (length c.deref-7.result.now) trees) in
    let part = cells_as m c.deref-8.result.now (length c.args.nl.now.cells + cells) (length c.args.nl.now.cells) _ _ _ d nets widths trips (omega arith) in
    omega (arith, all, part)
