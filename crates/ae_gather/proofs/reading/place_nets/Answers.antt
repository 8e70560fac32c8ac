-- The counter that is a clock ahead, and columns of fixed words by it.
use Rattle.std.proofs.Common.{sum_by, ℕ, ◌≡◌, ◌+◌, ◌-◌, ◌%◌, [], get_or, slice_get, Some, arith, refl, ap, ◌∙◌, length}
use Rattle.std.proofs.lemmas.Option.{slice_get-get_or}
use Rattle.ae_netlist.specs.declared.cell.NetId.{NetId}
use Rattle.ae_gates.proofs.Adding.{adds_trans}
use Rattle.ae_clocked.proofs.InRow.{keeps_trans}
use Rattle.ae_gather.proofs.Building.{begun_of, fitting_grows, steps_ready}
use Rattle.ae_columns.proofs.Choosing.{phase_grows}
use Rattle.ae_columns.proofs.Scheduled.{columns_nets}
use Rattle.ae_gather.proofs.Showing.{fitting_places, no_lines, places_shown}
use Rattle.ae_columns.proofs.Counted.{counted_most, counted_trans, none_count}
use Rattle.ae_columns.specs.Plans.{steps_cells}
use Rattle.ae_gather.proofs.reading.place_nets.Goals as goal

pub all_columns-requires-clause-begun : goal.all_columns-requires-clause-begun
all_columns-requires-clause-begun c = rw c.deref.ensures.value (begun_of _ _ _ _ _ c.requires.plan c.requires.used c.requires.columns)

pub all_columns-requires-clause-ready : goal.all_columns-requires-clause-ready
all_columns-requires-clause-ready c = λ q w steps there wide.
    let here = rw c.deref.ensures.value at there in
    let width = rw c.deref-2.ensures.value at wide in
    let lines = no_lines c.counting.new.nl.cells c.counting.new.clocks.rst c.args.reading.now.plan.lines.items c.requires.none in
    let fits = fitting_places c.args.nl.now.cells c.args.reading.now.reads.bits c.in_ok-widths.widths.items c.args.reading.now.places.items
    (omega (arith, c.requires.low)) (omega (arith, c.requires.high)) c.in_ok-widths.ensures.each c.requires.fits in
    let fitting = fitting_grows _ _ [] c.in_ok-widths.widths.items c.args.reading.now.places.items c.in_ok-phase.ensures.adds.grows.extends fits in
    rw (c.deref-3.ensures.value, c.in_ok-early.ensures.none q, c.in_ok-phase.ensures.limits)
    (steps_ready _ _ w q c.args.limit c.args.times.latency [] c.in_ok-widths.widths.items c.args.reading.now.places.items c.args.reading.now.plan.lines.items
    [] c.args.reading.now.plan.columns.items steps lines fitting c.requires.below c.requires.plan here width)

pub returns-clause-keeps : goal.returns-clause-keeps
returns-clause-keeps c = keeps_trans c.in_ok-phase.ensures.keeps c.in_ok-out.ensures.keeps

pub returns-clause-adds : goal.returns-clause-adds
returns-clause-adds c = adds_trans c.in_ok-phase.ensures.adds (rw (c.deref.ensures.value, c.requires.columns) at c.in_ok-out.ensures.adds)

pub returns-clause-belongs : goal.returns-clause-belongs
returns-clause-belongs c = c.in_ok-out.ensures.belongs

pub returns-clause-nets : goal.returns-clause-nets
returns-clause-nets c = λ q l.
    let none : NetId = record { 0 = 0 } in
    let made = rw (c.deref.ensures.value, c.deref-2.ensures.value, c.deref-3.ensures.value) at c.in_ok-out.ensures.columns in
    let width : slice_get c.in_ok-widths.widths.items q ≡ Some (get_or c.in_ok-widths.widths.items q 0) = slice_get-get_or c.in_ok-widths.widths.items q 0
    (omega (arith, l, c.in_ok-widths.ensures.long)) in
    let there : slice_get c.in_ok-out.out.items q ≡ Some (get_or c.in_ok-out.out.items q none) = slice_get-get_or c.in_ok-out.out.items q none
    (omega (arith, l, made.long, c.requires.columns)) in
    let net = columns_nets _ _ _ _ c.in_ok-widths.widths.items _ c.args.reading.now.plan.columns.items c.in_ok-out.out.items
    (omega (arith, c.in_ok-widths.ensures.long, c.requires.columns)) made q (get_or c.in_ok-widths.widths.items q 0)
    (get_or c.in_ok-out.out.items q none) width there in
    rw (c.in_ok-widths.ensures.each q (get_or c.in_ok-widths.widths.items q 0) width) at net

pub returns-clause-shows : goal.returns-clause-shows
returns-clause-shows c =
    let made = rw (c.deref.ensures.value, c.deref-2.ensures.value, c.deref-3.ensures.value, c.in_ok-phase.ensures.keeps.rst) at c.in_ok-out.ensures.columns in
    let t : ℕ = c.args.times.period in
    let offsets = c.in_ok-phase.ensures.offsets ∙ c.offset-ahead.ensures ∙ ap (λ n. (n + (t - 1)) % t) c.offset-begin.ensures in
    places_shown _ _ c.args.times.period c.args.times.latency c.args.times.arrival c.args.limit c.args.outs c.in_ok-phase.phase _ c.in_ok-widths.widths.items
    c.in_ok-early.early.items c.args.reading.now.places.items c.args.reading.now.plan.lines.items c.args.reading.now.plan.columns.items c.in_ok-out.out.items
    c.requires.within c.requires.below c.requires.plan c.requires.columns c.in_ok-widths.ensures.long c.in_ok-early.ensures.none refl
    (phase_grows c.in_ok-out.ensures.adds.grows.extends c.in_ok-phase.ensures.counts) c.in_ok-phase.ensures.periodic c.in_ok-phase.ensures.limits offsets
    made

pub returns-clause-counted : goal.returns-clause-counted
returns-clause-counted c =
    let none = none_count c.in_ok-early.early.items c.in_ok-early.ensures.none in
    let told = rw (c.deref.ensures.value, c.deref-3.ensures.value) at c.in_ok-out.ensures.counted in
    counted_most _ _ (omega (arith, none)) (omega arith) (counted_trans c.in_ok-phase.ensures.counted told)

pub counting-requires-clause-room : goal.counting-requires-clause-room
counting-requires-clause-room c =
    omega (arith, c.requires.room)

pub all_columns-requires-clause-room : goal.all_columns-requires-clause-room
all_columns-requires-clause-room c =
    let steps = ap (sum_by steps_cells) c.deref.ensures.value in
    let long = ap length c.deref.ensures.value in
    omega (arith, c.requires.room, steps, long, c.requires.columns, c.in_ok-phase.ensures.adds.cells, c.in_ok-phase.ensures.adds.grows.limit)
