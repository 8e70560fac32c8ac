-- The counters, the lines and the columns of a plan.
use Rattle.std.proofs.Common.{ℕ, ◌≡◌, ◌+◌, ◌*◌, ◌≤◌, min, sum_by, length, arith, ap, sym, ◌∙◌}
use Rattle.std.proofs.lemmas.Option.{slice_get_within}
use Rattle.ae_netlist.proofs.Growing.{net_later}
use Rattle.ae_clocked.specs.Delays.{line_cells}
use Rattle.ae_gates.proofs.Adding.{grows_trans}
use Rattle.ae_columns.specs.Plans.{IsPlan, line_mems, steps_cells}
use Rattle.ae_gather.proofs.Building.{begun_of, fitting_grows, steps_ready}
use Rattle.ae_columns.proofs.Choosing.{phase_grows}
use Rattle.ae_gather.proofs.Hastened.{clocks_hastened, fitting_hastened, used_hastened}
use Rattle.ae_columns.proofs.Scheduled.{columns_trips, columns_nets, has_grows}
use Rattle.ae_columns.proofs.Counted.{counted_most, counted_trans}
use Rattle.ae_gather.proofs.moving.build_plan.Goals as goal
use Rattle.ae_clocked.proofs.InRow.{keeps_trans}

-- ---- what is added, from what the counters, the lines and the columns add

columns_room : (a b c d m n i l j s o k : ℕ) → m ≡ n → i ≡ l → j ≡ s → o ≡ k → b ≤ a + m → c ≤ b + i → d ≤ c + (j + o) → d ≤ a + (n + l + s + k)
columns_room a b c d m n i l j s o k e f p q h g r = omega arith

no_more : (a b : ℕ) → b ≡ a + 0 → b ≡ a
no_more a b h = omega arith

memories_room : (a b c d i l : ℕ) → i ≡ l → b ≡ a → c ≤ b + i → d ≡ c → d ≤ a + l
memories_room a b c d i l e h g r = omega arith

pub limit_of-limit-requires : goal.limit_of-limit-requires
limit_of-limit-requires c = record { within = c.requires.within.clock }

pub returns-clause-cells : goal.returns-clause-cells
returns-clause-cells c =
    columns_room _ _ _ _ _ _ _ _ _ _ _ _ (ap (λ xs. 12 * min 2 (length xs)) c.deref.ensures.value ∙ ap (λ n. 12 * min 2 n) c.requires.early)
    (ap (sum_by line_cells) c.deref-2.ensures.value)
    (ap (sum_by steps_cells) c.deref-4.ensures.value) (ap (λ xs. 3 * length xs) c.deref-4.ensures.value) c.in_ok-counters.ensures.adds.cells
    c.in_ok-lines.ensures.cells c.in_ok-out.ensures.adds.cells

pub returns-clause-muls : goal.returns-clause-muls
returns-clause-muls c = no_more _ _ c.in_ok-out.ensures.adds.muls ∙ (c.in_ok-lines.ensures.muls ∙ no_more _ _ c.in_ok-counters.ensures.adds.muls)

pub returns-clause-memories : goal.returns-clause-memories
returns-clause-memories c =
    memories_room _ _ _ _ _ _ (ap (sum_by line_mems) c.deref-2.ensures.value) c.in_ok-counters.ensures.adds.memories c.in_ok-lines.ensures.memories
    c.in_ok-out.ensures.adds.memories

pub returns-clause-whole : goal.returns-clause-whole
returns-clause-whole c = λ h. c.in_ok-out.ensures.adds.whole (c.in_ok-lines.ensures.whole (c.in_ok-counters.ensures.adds.whole h))

pub returns-clause-long : goal.returns-clause-long
returns-clause-long c = c.in_ok-out.ensures.columns.long ∙ (ap length c.deref-4.ensures.value ∙ c.requires.columns)

pub counters-requires-clause-limited : goal.counters-requires-clause-limited
counters-requires-clause-limited c = c.limit_of-limit.ensures.limited

pub all_lines-requires-clause-long : goal.all_lines-requires-clause-long
all_lines-requires-clause-long c = ap length c.deref-2.ensures.value ∙ c.requires.lines

pub all_columns-requires-clause-early : goal.all_columns-requires-clause-early
all_columns-requires-clause-early c =
    ap length c.deref-5.ensures.value ∙ (c.requires.early ∙ (sym c.requires.columns ∙ sym (ap length c.deref-4.ensures.value)))

pub all_columns-requires-clause-long : goal.all_columns-requires-clause-long
all_columns-requires-clause-long c = sym c.requires.columns ∙ sym (ap length c.deref-4.ensures.value)

pub counters-requires-clause-some : goal.counters-requires-clause-some
counters-requires-clause-some c = omega (arith, c.requires.some, c.requires.early, ap length c.deref.ensures.value)

pub all_lines-requires-clause-nets : goal.all_lines-requires-clause-nets
all_lines-requires-clause-nets c = λ q l. let n = c.requires.nets q l in (n.0, net_later c.in_ok-counters.ensures.adds.grows.extends n.1)

pub all_columns-requires-clause-phases : goal.all_columns-requires-clause-phases
all_columns-requires-clause-phases c = λ q l.
    let early = c.deref-5.ensures.value in
    let has = rw c.deref.ensures.value at (c.in_ok-counters.ensures.counters q
    (omega (arith, l, c.requires.early, c.requires.columns, ap length c.deref.ensures.value, ap length c.deref-4.ensures.value))) in
    rw (c.in_ok-lines.ensures.keeps.rst, c.in_ok-counters.ensures.keeps.rst, early) (phase_grows c.in_ok-lines.ensures.grows.extends has.counts)

pub all_columns-requires-clause-begun : goal.all_columns-requires-clause-begun
all_columns-requires-clause-begun c =
    rw c.deref-4.ensures.value (begun_of _ _ _ _ _ c.requires.plan (used_hastened _ _ _ _ c.requires.moved c.requires.used) c.requires.columns)

pub all_columns-requires-clause-ready : goal.all_columns-requires-clause-ready
all_columns-requires-clause-ready c = λ q w steps there wide.
    let lines = c.in_ok-lines.ensures.lines in
    let plan : IsPlan c.args.times.latency c.args.schedule.now.moved.items c.deref-2.result.now
    c.deref-4.result.now = rw (c.deref-2.ensures.value, c.deref-4.ensures.value) c.requires.plan in
    let grown = fitting_grows _ _ c.args.ins.now c.args.widths.now c.args.trips.now
    (grows_trans c.in_ok-counters.ensures.adds.grows c.in_ok-lines.ensures.grows).extends c.requires.fitting in
    let fitting = fitting_hastened _ c.args.ins.now c.args.widths.now c.args.schedule.now.early.items c.args.trips.now c.args.schedule.now.moved.items
    c.requires.moved grown in
    let below = clocks_hastened _ c.args.schedule.now.early.items c.args.trips.now c.args.schedule.now.moved.items c.requires.moved
    c.limit_of-limit.ensures.below in
    let inside = slice_get_within c.deref-4.result.now q steps there in
    let has = rw c.deref.ensures.value at (c.in_ok-counters.ensures.counters q
    (omega (arith, inside, c.requires.early, c.requires.columns, ap length c.deref.ensures.value, ap length c.deref-4.ensures.value))) in
    rw (c.in_ok-lines.ensures.keeps.rst, c.deref-3.ensures.value, c.deref-5.ensures.value, has.limits)
    (steps_ready _ _ w q c.limit_of-limit.result c.args.times.latency c.args.ins.now c.args.widths.now c.args.schedule.now.moved.items c.deref-2.result.now _
    c.deref-4.result.now steps lines fitting below plan there wide)

pub returns-clause-belongs : goal.returns-clause-belongs
returns-clause-belongs c = c.in_ok-out.ensures.belongs

pub returns-clause-keeps : goal.returns-clause-keeps
returns-clause-keeps c = keeps_trans (keeps_trans c.in_ok-counters.ensures.keeps c.in_ok-lines.ensures.keeps) c.in_ok-out.ensures.keeps

pub returns-clause-grows : goal.returns-clause-grows
returns-clause-grows c = grows_trans c.in_ok-counters.ensures.adds.grows (grows_trans c.in_ok-lines.ensures.grows c.in_ok-out.ensures.adds.grows)

pub returns-clause-nets : goal.returns-clause-nets
returns-clause-nets c =
    columns_nets _ _ _ _ _ _ c.deref-4.result.now _ (omega (arith, c.requires.columns, ap length c.deref-4.ensures.value)) c.in_ok-out.ensures.columns

pub returns-clause-trips : goal.returns-clause-trips
returns-clause-trips c =
    let plan : IsPlan c.args.times.latency c.args.schedule.now.moved.items c.deref-2.result.now
    c.deref-4.result.now = rw (c.deref-2.ensures.value, c.deref-4.ensures.value) c.requires.plan in
    let g = grows_trans c.in_ok-lines.ensures.grows c.in_ok-out.ensures.adds.grows in
    let columns = rw (c.in_ok-lines.ensures.keeps.rst, c.in_ok-counters.ensures.keeps.rst, c.deref-5.ensures.value) at c.in_ok-out.ensures.columns in
    columns_trips _ _ c.args.times.period c.args.times.latency c.args.times.arrival c.limit_of-limit.result _ _ c.in_ok-counters.counters c.args.ins.now _
    c.args.widths.now c.args.schedule.now.early.items c.args.trips.now c.args.schedule.now.moved.items c.deref-2.result.now c.deref-4.result.now
    c.requires.moved c.requires.time c.requires.within c.limit_of-limit.ensures.below plan
    (omega (arith, c.requires.columns, ap length c.deref-4.ensures.value))
    (λ q l. has_grows _ _ _ _ _ _ _ _ g.extends (rw c.deref.ensures.value at
    (c.in_ok-counters.ensures.counters q (omega (
      arith,
      l,
      c.requires.early,
      c.requires.columns,
      ap length c.deref.ensures.value,
      ap length c.deref-4.ensures.value,
    ))))) columns

pub returns-clause-counted : goal.returns-clause-counted
returns-clause-counted c =
    let lines = rw c.deref-2.ensures.value at c.in_ok-lines.ensures.counted in
    let columns = rw (c.deref-4.ensures.value, c.deref-5.ensures.value) at c.in_ok-out.ensures.counted in
    counted_most _ _ (omega arith) (omega arith) (counted_trans (counted_trans c.in_ok-counters.ensures.counted lines) columns)

pub counters-requires-clause-room : goal.counters-requires-clause-room
counters-requires-clause-room c =
    let twelve : 12 * min 2 (length c.deref.result.now) ≡ 12 * min 2 (length c.args.widths.now) = ap (λ xs. 12 * min 2 (length xs)) c.deref.ensures.value
    ∙ ap (λ n. 12 * min 2 n) c.requires.early in
    omega (arith, c.requires.room, twelve)

pub all_lines-requires-clause-room : goal.all_lines-requires-clause-room
all_lines-requires-clause-room c =
    let twelve : 12 * min 2 (length c.deref.result.now) ≡ 12 * min 2 (length c.args.widths.now) = ap (λ xs. 12 * min 2 (length xs)) c.deref.ensures.value
    ∙ ap (λ n. 12 * min 2 n) c.requires.early in
    let lines = ap (sum_by line_cells) c.deref-2.ensures.value in
    omega (arith, c.requires.room, twelve, lines, c.in_ok-counters.ensures.adds.cells, c.in_ok-counters.ensures.adds.grows.limit)

pub all_columns-requires-clause-room : goal.all_columns-requires-clause-room
all_columns-requires-clause-room c =
    let twelve : 12 * min 2 (length c.deref.result.now) ≡ 12 * min 2 (length c.args.widths.now) = ap (λ xs. 12 * min 2 (length xs)) c.deref.ensures.value
    ∙ ap (λ n. 12 * min 2 n) c.requires.early in
    let lines = ap (sum_by line_cells) c.deref-2.ensures.value in
    let steps = ap (sum_by steps_cells) c.deref-4.ensures.value in
    let long = ap length c.deref-4.ensures.value in
    omega (
      arith,
      c.requires.room,
      twelve,
      lines,
      steps,
      long,
      c.in_ok-counters.ensures.adds.cells,
      c.in_ok-counters.ensures.adds.grows.limit,
      c.in_ok-lines.ensures.cells,
      c.in_ok-lines.ensures.grows.limit,
    )
