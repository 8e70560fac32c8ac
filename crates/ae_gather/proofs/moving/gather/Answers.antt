-- The registers that hold words, and what is built on them, are within the bound of the trips.
use Rattle.std.proofs.Common.{ℕ, ◌≡◌, ◌<◌, ◌≤◌, ◌+◌, ◌*◌, length, map, min, inl, inr, arith, ap, ◌∙◌}
use Rattle.std.proofs.lemmas.List.{length-map}
use Rattle.ae_gates.specs.Cells.{Adds}
use Rattle.ae_gates.proofs.Adding.{grows_trans}
use Rattle.ae_moves.specs.Rings.{AreHeld}
use Rattle.ae_moves.specs.Trees.{trip_tree}
use Rattle.ae_columns.specs.Held.{AreKept, kept_count, settled}
use Rattle.ae_columns.specs.Plans.{AreWithin}
use Rattle.ae_gather.proofs.Building.{begun_of, fitting_grows}
use Rattle.ae_gather.proofs.Delays.{gather_cells}
use Rattle.ae_gather.proofs.Hastened.{used_hastened}
use Rattle.ae_gather.proofs.Memories.{trees_within}
use Rattle.ae_gather.proofs.Settled.{delay_all, fitting_settled, kept_few, kept_grows, kept_nets, mems_all, order_settled, runs_settled, trips_settled, used_settled, within_settled}
use Rattle.std.proofs.lemmas.Bool.{cases_lt}
use Rattle.ae_columns.specs.Counts.{early_count}
use Rattle.ae_gather.proofs.Bounded.{kept_held, registers_all, steps_settled}
use Rattle.ae_columns.proofs.Counted.{counted_most, counted_trans}
use Rattle.ae_gather.proofs.moving.gather.Goals as goal
use Rattle.ae_clocked.proofs.InRow.{keeps_trans}

below_limit : (a b n : ℕ) → a < b → b ≤ n → a < n
below_limit a b n h l = omega arith

pub held_columns-requires-clause-within : goal.held_columns-requires-clause-within
held_columns-requires-clause-within c =
    trees_within c.args.times.latency _ (length c.args.widths.now) c.args.trips.now c.requires.few_outs
    (record {
      clock = λ n t f. below_limit _ _ _ (c.requires.within.clock n t f) c.requires.limit;
      column = c.requires.within.column;
      reached = c.requires.within.reached;
      source = c.requires.within.source;
    })

pub all_nets-requires-clause-long : goal.all_nets-requires-clause-long
all_nets-requires-clause-long c = rw c.deref-2.ensures.value c.in_ok-held.ensures.long

pub all_settled-requires-clause-columns : goal.all_settled-requires-clause-columns
all_settled-requires-clause-columns c = rw c.deref-3.ensures.value (λ n trip f. rw c.in_ok-held.ensures.long (c.requires.within.source n trip f))

pub all_settled-requires-clause-clocks : goal.all_settled-requires-clause-clocks
all_settled-requires-clause-clocks c = λ n trip f. below_limit _ _ _ (c.requires.within.clock n trip f) c.requires.limit

pub scheduled-requires-clause-within : goal.scheduled-requires-clause-within
scheduled-requires-clause-within c =
    let long : length c.in_ok-held.held.items ≡ length c.args.ins.now = c.in_ok-held.ensures.long in
    let within : AreWithin c.args.times.period c.args.times.latency (length c.in_ok-held.held.items)
    (length c.args.widths.now) c.args.trips.now = rw long c.requires.within in
    let moves : c.in_ok-settled.settled.items ≡ map (settled c.args.times.latency c.in_ok-held.held.items) c.args.trips.now = rw c.deref-3.ensures.value at
    c.in_ok-settled.ensures in
    let low : AreWithin 4096 c.args.times.latency (length c.in_ok-held.held.items)
    (length c.args.widths.now) c.args.trips.now = record {
      clock = λ n t f. below_limit _ _ _ (within.clock n t f) c.requires.limit;
      column = within.column;
      reached = within.reached;
      source = within.source;
    } in
    rw c.deref-4.ensures.value (rw long at (within_settled 4096 c.args.times.latency
    (length c.args.widths.now) c.in_ok-held.held.items c.args.trips.now c.in_ok-settled.settled.items moves low))

pub scheduled-requires-clause-order : goal.scheduled-requires-clause-order
scheduled-requires-clause-order c =
    let moves : c.in_ok-settled.settled.items ≡ map (settled c.args.times.latency c.in_ok-held.held.items) c.args.trips.now = rw c.deref-3.ensures.value at
    c.in_ok-settled.ensures in
    rw c.deref-4.ensures.value (order_settled c.args.times.latency c.in_ok-held.held.items c.args.trips.now c.in_ok-settled.settled.items moves
    c.requires.order)

pub scheduled-requires-clause-few : goal.scheduled-requires-clause-few
scheduled-requires-clause-few c =
    let moves : c.in_ok-settled.settled.items ≡ map (settled c.args.times.latency c.in_ok-held.held.items) c.args.trips.now = rw c.deref-3.ensures.value at
    c.in_ok-settled.ensures in
    let count : length c.in_ok-settled.settled.items ≡ length c.args.trips.now = ap length moves ∙
    length-map c.args.trips.now (settled c.args.times.latency c.in_ok-held.held.items) in
    rw c.deref-4.ensures.value (omega (arith, count, c.requires.few))

pub build_best-requires-clause-few : goal.build_best-requires-clause-few
build_best-requires-clause-few c =
    let moves : c.in_ok-settled.settled.items ≡ map (settled c.args.times.latency c.in_ok-held.held.items) c.args.trips.now = rw c.deref-3.ensures.value at
    c.in_ok-settled.ensures in
    let count : length c.in_ok-settled.settled.items ≡ length c.args.trips.now = ap length moves ∙
    length-map c.args.trips.now (settled c.args.times.latency c.in_ok-held.held.items) in
    rw c.deref-6.ensures.value (omega (arith, count, c.requires.few))

pub build_best-requires-clause-order : goal.build_best-requires-clause-order
build_best-requires-clause-order c =
    let moves : c.in_ok-settled.settled.items ≡ map (settled c.args.times.latency c.in_ok-held.held.items) c.args.trips.now = rw c.deref-3.ensures.value at
    c.in_ok-settled.ensures in
    rw c.deref-6.ensures.value (order_settled c.args.times.latency c.in_ok-held.held.items c.args.trips.now c.in_ok-settled.settled.items moves
    c.requires.order)

pub build_best-requires-clause-nets : goal.build_best-requires-clause-nets
build_best-requires-clause-nets c =
    let long : length c.in_ok-held.held.items ≡ length c.args.ins.now = c.in_ok-held.ensures.long in
    let kept : AreKept c.all_nets.new.nl.cells c.args.clocks.now.rst c.args.times.period c.args.times.latency c.args.times.arrival c.args.ins.now
    c.in_ok-held.held.items c.in_ok-all.all.items = rw c.deref-2.ensures.value at c.in_ok-all.ensures.kept in
    rw c.deref-5.ensures.value (kept_nets _ _ c.args.times.period c.args.times.latency c.args.times.arrival c.args.ins.now c.in_ok-held.held.items
    c.in_ok-all.all.items long kept)

pub build_best-requires-clause-within : goal.build_best-requires-clause-within
build_best-requires-clause-within c =
    let long : length c.in_ok-held.held.items ≡ length c.args.ins.now = c.in_ok-held.ensures.long in
    let within : AreWithin c.args.times.period c.args.times.latency (length c.in_ok-held.held.items)
    (length c.args.widths.now) c.args.trips.now = rw long c.requires.within in
    let moves : c.in_ok-settled.settled.items ≡ map (settled c.args.times.latency c.in_ok-held.held.items) c.args.trips.now = rw c.deref-3.ensures.value at
    c.in_ok-settled.ensures in
    let kept : AreKept c.all_nets.new.nl.cells c.args.clocks.now.rst c.args.times.period c.args.times.latency c.args.times.arrival c.args.ins.now
    c.in_ok-held.held.items c.in_ok-all.all.items = rw c.deref-2.ensures.value at c.in_ok-all.ensures.kept in
    let count : length c.in_ok-all.all.items ≡ length c.in_ok-held.held.items + length c.in_ok-held.held.items = omega (arith, kept.long, long) in
    rw (c.deref-5.ensures.value, c.deref-6.ensures.value, count)
    (within_settled c.args.times.period c.args.times.latency
    (length c.args.widths.now) c.in_ok-held.held.items c.args.trips.now c.in_ok-settled.settled.items moves within)

pub build_best-requires-clause-used : goal.build_best-requires-clause-used
build_best-requires-clause-used c =
    let moves : c.in_ok-settled.settled.items ≡ map (settled c.args.times.latency c.in_ok-held.held.items) c.args.trips.now = rw c.deref-3.ensures.value at
    c.in_ok-settled.ensures in
    rw c.deref-6.ensures.value (used_settled c.args.times.latency
    (length c.args.widths.now) c.in_ok-held.held.items c.args.trips.now c.in_ok-settled.settled.items moves c.requires.used)

pub build_best-requires-clause-fitting : goal.build_best-requires-clause-fitting
build_best-requires-clause-fitting c =
    let long : length c.in_ok-held.held.items ≡ length c.args.ins.now = c.in_ok-held.ensures.long in
    let within : AreWithin c.args.times.period c.args.times.latency (length c.in_ok-held.held.items)
    (length c.args.widths.now) c.args.trips.now = rw long c.requires.within in
    let moves : c.in_ok-settled.settled.items ≡ map (settled c.args.times.latency c.in_ok-held.held.items) c.args.trips.now = rw c.deref-3.ensures.value at
    c.in_ok-settled.ensures in
    let kept : AreKept c.all_nets.new.nl.cells c.args.clocks.now.rst c.args.times.period c.args.times.latency c.args.times.arrival c.args.ins.now
    c.in_ok-held.held.items c.in_ok-all.all.items = rw c.deref-2.ensures.value at c.in_ok-all.ensures.kept in
    let grown = fitting_grows _ _ c.args.ins.now c.args.widths.now c.args.trips.now c.in_ok-all.ensures.adds.grows.extends c.requires.fitting in
    rw (c.deref-5.ensures.value, c.deref-6.ensures.value)
    (fitting_settled _ _ c.args.times.period c.args.times.latency c.args.times.arrival
    (length c.args.widths.now) c.args.ins.now c.in_ok-all.all.items c.args.widths.now c.in_ok-held.held.items c.args.trips.now
    c.in_ok-settled.settled.items moves long kept within grown)

pub build_best-requires-clause-time : goal.build_best-requires-clause-time
build_best-requires-clause-time c = rw (c.deref-6.ensures.value, ← c.deref-4.ensures.value) c.in_ok-schedule.ensures.time

pub build_best-requires-clause-moved : goal.build_best-requires-clause-moved
build_best-requires-clause-moved c = rw (c.deref-6.ensures.value, ← c.deref-4.ensures.value) c.in_ok-schedule.ensures.moved

pub build_best-requires-clause-lines : goal.build_best-requires-clause-lines
build_best-requires-clause-lines c =
    let long : length c.in_ok-held.held.items ≡ length c.args.ins.now = c.in_ok-held.ensures.long in
    let kept : AreKept c.all_nets.new.nl.cells c.args.clocks.now.rst c.args.times.period c.args.times.latency c.args.times.arrival c.args.ins.now
    c.in_ok-held.held.items c.in_ok-all.all.items = rw c.deref-2.ensures.value at c.in_ok-all.ensures.kept in
    rw c.deref-5.ensures.value (omega (arith, kept.long, long, c.in_ok-schedule.ensures.lines))

pub build_best-requires-clause-taps : goal.build_best-requires-clause-taps
build_best-requires-clause-taps c = rw (c.deref-6.ensures.value, ← c.deref-4.ensures.value) c.in_ok-schedule.ensures.few

-- ---- room for what registers and the plan take

plan_room : (a b c d k delay runs i r m n l s t : ℕ) → n ≡ m → b ≤ a + 16 * k → c ≤ b + (m + l + s + t) → n + l + s + t ≤ 16 * (d + i + r) →
    i + k ≤ delay → r ≤ runs → c ≤ a + 16 * (d + delay + runs)
plan_room a b c d k delay runs i r m n l s t e f g h p q = omega arith

no_more : (a b : ℕ) → b ≡ a + 0 → b ≡ a
no_more a b h = omega arith

plan_memories : (a b c l m : ℕ) → b ≡ a → c ≤ b + l → l ≤ m → c ≤ a + m
plan_memories a b c l m e f g = omega arith

pub returns-clause-cells : goal.returns-clause-cells
returns-clause-cells c =
    let long : length c.in_ok-held.held.items ≡ length c.args.ins.now = c.in_ok-held.ensures.long in
    let held : AreHeld c.args.times.period c.args.times.latency (length c.in_ok-held.held.items)
    (map trip_tree c.args.trips.now) c.in_ok-held.held.items = rw long c.in_ok-held.ensures in
    let within : AreWithin c.args.times.period c.args.times.latency (length c.in_ok-held.held.items)
    (length c.args.widths.now) c.args.trips.now = rw long c.requires.within in
    let moves : c.in_ok-settled.settled.items ≡ map (settled c.args.times.latency c.in_ok-held.held.items) c.args.trips.now = rw c.deref-3.ensures.value at
    c.in_ok-settled.ensures in
    let adds : Adds c.args.nl.now c.all_nets.new.nl (16 * kept_count c.in_ok-held.held.items (length c.in_ok-held.held.items)) 0 = rw c.deref-2.ensures.value at
    c.in_ok-all.ensures.adds in
    let p = c.in_ok-schedule.ensures in
    let used = used_settled c.args.times.latency (length c.args.widths.now) c.in_ok-held.held.items c.args.trips.now c.in_ok-settled.settled.items moves
    c.requires.used in
    let delay = rw c.deref-4.ensures.value at p.delay in
    let runs = rw c.deref-4.ensures.value at p.runs in
    let moved = rw c.deref-4.ensures.value at p.moved in
    let begun = begun_of _ _ _ _ _ p.plan (used_hastened _ _ _ _ moved used) p.columns in
    plan_room _ _ _ _ _ _ _ _ _ _ _ _ _ _ (ap (λ n. 12 * min 2 n) p.columns) adds.cells c.in_ok-out.ensures.cells
    (gather_cells c.args.times.latency _ _ c.in_ok-schedule.schedule.plan.lines.items c.in_ok-schedule.schedule.plan.columns.items delay p.taps runs
    (rw p.columns c.requires.some) begun)
    (delay_all c.args.times.period c.args.times.latency (length c.args.ins.now) c.in_ok-held.held.items c.args.trips.now c.in_ok-settled.settled.items moves
    long within.source held)
    (runs_settled c.args.times.latency (length c.args.widths.now) c.in_ok-held.held.items c.args.trips.now c.in_ok-settled.settled.items moves)

pub returns-clause-memories : goal.returns-clause-memories
returns-clause-memories c =
    let long : length c.in_ok-held.held.items ≡ length c.args.ins.now = c.in_ok-held.ensures.long in
    let held : AreHeld c.args.times.period c.args.times.latency (length c.in_ok-held.held.items)
    (map trip_tree c.args.trips.now) c.in_ok-held.held.items = rw long c.in_ok-held.ensures in
    let within : AreWithin c.args.times.period c.args.times.latency (length c.in_ok-held.held.items)
    (length c.args.widths.now) c.args.trips.now = rw long c.requires.within in
    let moves : c.in_ok-settled.settled.items ≡ map (settled c.args.times.latency c.in_ok-held.held.items) c.args.trips.now = rw c.deref-3.ensures.value at
    c.in_ok-settled.ensures in
    let p = c.in_ok-schedule.ensures in
    let ages = rw c.deref-4.ensures.value at p.ages in
    plan_memories _ _ _ _ _ c.in_ok-all.ensures.adds.memories c.in_ok-out.ensures.memories
    (mems_all c.args.times.period c.args.times.latency (length c.args.ins.now) c.in_ok-held.held.items c.args.trips.now c.in_ok-settled.settled.items
    c.in_ok-schedule.schedule.plan.lines.items moves long within.source held p.lines ages)

pub returns-clause-belongs : goal.returns-clause-belongs
returns-clause-belongs c = c.in_ok-out.ensures.belongs

pub returns-clause-muls : goal.returns-clause-muls
returns-clause-muls c = c.in_ok-out.ensures.muls ∙ no_more _ _ c.in_ok-all.ensures.adds.muls

pub returns-clause-whole : goal.returns-clause-whole
returns-clause-whole c = λ h. c.in_ok-out.ensures.whole (c.in_ok-all.ensures.adds.whole h)

pub returns-clause-long : goal.returns-clause-long
returns-clause-long c = c.in_ok-out.ensures.long

pub returns-clause-nets : goal.returns-clause-nets
returns-clause-nets c = c.in_ok-out.ensures.nets

pub returns-clause-keeps : goal.returns-clause-keeps
returns-clause-keeps c = keeps_trans c.in_ok-all.ensures.keeps c.in_ok-out.ensures.keeps

pub returns-clause-grows : goal.returns-clause-grows
returns-clause-grows c = grows_trans c.in_ok-all.ensures.adds.grows c.in_ok-out.ensures.grows

pub returns-clause-trips : goal.returns-clause-trips
returns-clause-trips c =
    let long : length c.in_ok-held.held.items ≡ length c.args.ins.now = c.in_ok-held.ensures.long in
    let held : AreHeld c.args.times.period c.args.times.latency (length c.in_ok-held.held.items)
    (map trip_tree c.args.trips.now) c.in_ok-held.held.items = rw long c.in_ok-held.ensures in
    let within : AreWithin c.args.times.period c.args.times.latency (length c.in_ok-held.held.items)
    (length c.args.widths.now) c.args.trips.now = rw long c.requires.within in
    let moves : c.in_ok-settled.settled.items ≡ map (settled c.args.times.latency c.in_ok-held.held.items) c.args.trips.now = rw c.deref-3.ensures.value at
    c.in_ok-settled.ensures in
    let kept : AreKept c.all_nets.new.nl.cells c.args.clocks.now.rst c.args.times.period c.args.times.latency c.args.times.arrival c.args.ins.now
    c.in_ok-held.held.items c.in_ok-all.all.items = rw c.deref-2.ensures.value at c.in_ok-all.ensures.kept in
    let grown = kept_grows _ _ _ _ _ _ _ _ _ c.in_ok-out.ensures.grows.extends kept in
    let made = rw (c.deref-5.ensures.value, c.deref-6.ensures.value, c.in_ok-all.ensures.keeps.rst) at c.in_ok-out.ensures.trips in
    trips_settled _ _ c.args.times.period c.args.times.latency c.args.times.arrival
    (length c.args.widths.now) c.args.ins.now c.in_ok-all.all.items _ c.in_ok-held.held.items c.args.trips.now c.in_ok-settled.settled.items moves long
    grown held within made

pub most_registers-requires-clause-within : goal.most_registers-requires-clause-within
most_registers-requires-clause-within c =
    trees_within c.args.times.latency _ (length c.args.widths.now) c.args.trips.now c.requires.few_outs
    (record {
      clock = λ n t f. below_limit _ _ _ (c.requires.within.clock n t f) c.requires.limit;
      column = c.requires.within.column;
      reached = c.requires.within.reached;
      source = c.requires.within.source;
    })

pub build_best-requires-clause-spare : goal.build_best-requires-clause-spare
build_best-requires-clause-spare c =
    let long : length c.in_ok-held.held.items ≡ length c.args.ins.now = c.in_ok-held.ensures.long in
    let held : AreHeld c.args.times.period c.args.times.latency (length c.in_ok-held.held.items)
    (map trip_tree c.args.trips.now) c.in_ok-held.held.items = rw long c.in_ok-held.ensures in
    let within : AreWithin c.args.times.period c.args.times.latency (length c.in_ok-held.held.items)
    (length c.args.widths.now) c.args.trips.now = rw long c.requires.within in
    let moves : c.in_ok-settled.settled.items ≡ map (settled c.args.times.latency c.in_ok-held.held.items) c.args.trips.now = rw c.deref-3.ensures.value at
    c.in_ok-settled.ensures in
    let p = c.in_ok-schedule.ensures in
    let ages = rw c.deref-4.ensures.value at p.ages in
    let room = registers_all c.args.times.period c.args.times.latency
    (length c.args.ins.now) c.in_ok-held.held.items c.args.trips.now c.in_ok-settled.settled.items
    c.in_ok-schedule.schedule.plan.lines.items moves long within.source held p.lines ages in
    let kept : c.kept_count.result ≡ kept_count c.in_ok-held.held.items (length c.in_ok-held.held.items) = rw c.deref.ensures.value at c.kept_count.ensures in
    elim (cases_lt 0 (early_count c.in_ok-schedule.schedule.early.items)) [
      | inl some ↦ p.spare some
      | inr none ↦ omega (arith, room, kept, c.in_ok-most.ensures, c.saturating_sub-spare.ensures, none)
    ]

pub returns-clause-counted : goal.returns-clause-counted
returns-clause-counted c =
    let long : length c.in_ok-held.held.items ≡ length c.args.ins.now = c.in_ok-held.ensures.long in
    let held : AreHeld c.args.times.period c.args.times.latency (length c.in_ok-held.held.items)
    (map trip_tree c.args.trips.now) c.in_ok-held.held.items = rw long c.in_ok-held.ensures in
    let within : AreWithin c.args.times.period c.args.times.latency (length c.in_ok-held.held.items)
    (length c.args.widths.now) c.args.trips.now = rw long c.requires.within in
    let moves : c.in_ok-settled.settled.items ≡ map (settled c.args.times.latency c.in_ok-held.held.items) c.args.trips.now = rw c.deref-3.ensures.value at
    c.in_ok-settled.ensures in
    let p = c.in_ok-schedule.ensures in
    let ages = rw c.deref-4.ensures.value at p.ages in
    let room = registers_all c.args.times.period c.args.times.latency
    (length c.args.ins.now) c.in_ok-held.held.items c.args.trips.now c.in_ok-settled.settled.items
    c.in_ok-schedule.schedule.plan.lines.items moves long within.source held p.lines ages in
    let kept : c.kept_count.result ≡ kept_count c.in_ok-held.held.items (length c.in_ok-held.held.items) = rw c.deref.ensures.value at c.kept_count.ensures in
    let runs = rw c.deref-4.ensures.value at p.runs in
    let steps = steps_settled c.args.times.period c.args.times.latency
    (length c.args.widths.now) c.in_ok-held.held.items c.args.trips.now c.in_ok-settled.settled.items moves within.source held in
    let few = kept_held c.args.times.period c.args.times.latency (length c.args.ins.now) c.in_ok-held.held.items c.args.trips.now long held in
    let nets = rw c.deref-2.ensures.value at c.in_ok-all.ensures.counted in
    counted_most _ _ (omega (arith, room, kept, c.in_ok-most.ensures, c.saturating_sub-spare.ensures)) (omega (arith, runs, steps, few))
    (counted_trans nets c.in_ok-out.ensures.counted)

pub all_nets-requires-clause-room : goal.all_nets-requires-clause-room
all_nets-requires-clause-room c =
    let long : length c.in_ok-held.held.items ≡ length c.args.ins.now = c.in_ok-held.ensures.long in
    let held : AreHeld c.args.times.period c.args.times.latency (length c.in_ok-held.held.items)
    (map trip_tree c.args.trips.now) c.in_ok-held.held.items = rw long c.in_ok-held.ensures in
    let within : AreWithin c.args.times.period c.args.times.latency (length c.in_ok-held.held.items)
    (length c.args.widths.now) c.args.trips.now = rw long c.requires.within in
    let few = kept_few c.args.times.period c.args.times.latency (length c.args.ins.now) c.in_ok-held.held.items c.args.trips.now long within.source held in
    rw c.deref-2.ensures.value (omega (arith, c.requires.room, few))

pub build_best-requires-clause-room : goal.build_best-requires-clause-room
build_best-requires-clause-room c =
    let long : length c.in_ok-held.held.items ≡ length c.args.ins.now = c.in_ok-held.ensures.long in
    let held : AreHeld c.args.times.period c.args.times.latency (length c.in_ok-held.held.items)
    (map trip_tree c.args.trips.now) c.in_ok-held.held.items = rw long c.in_ok-held.ensures in
    let within : AreWithin c.args.times.period c.args.times.latency (length c.in_ok-held.held.items)
    (length c.args.widths.now) c.args.trips.now = rw long c.requires.within in
    let moves : c.in_ok-settled.settled.items ≡ map (settled c.args.times.latency c.in_ok-held.held.items) c.args.trips.now = rw c.deref-3.ensures.value at
    c.in_ok-settled.ensures in
    let adds : Adds c.args.nl.now c.all_nets.new.nl (16 * kept_count c.in_ok-held.held.items (length c.in_ok-held.held.items)) 0 = rw c.deref-2.ensures.value at
    c.in_ok-all.ensures.adds in
    let p = c.in_ok-schedule.ensures in
    let used = used_settled c.args.times.latency (length c.args.widths.now) c.in_ok-held.held.items c.args.trips.now c.in_ok-settled.settled.items moves
    c.requires.used in
    let delay = rw c.deref-4.ensures.value at p.delay in
    let runs = rw c.deref-4.ensures.value at p.runs in
    let moved = rw c.deref-4.ensures.value at p.moved in
    let begun = begun_of _ _ _ _ _ p.plan (used_hastened _ _ _ _ moved used) p.columns in
    let cells = gather_cells c.args.times.latency _ _ c.in_ok-schedule.schedule.plan.lines.items c.in_ok-schedule.schedule.plan.columns.items delay p.taps runs
    (rw p.columns c.requires.some) begun in
    let waits = delay_all c.args.times.period c.args.times.latency
    (length c.args.ins.now) c.in_ok-held.held.items c.args.trips.now c.in_ok-settled.settled.items moves long within.source held in
    let most = runs_settled c.args.times.latency (length c.args.widths.now) c.in_ok-held.held.items c.args.trips.now c.in_ok-settled.settled.items moves in
    omega (arith, c.requires.room, adds.cells, adds.grows.limit, cells, waits, most, ap (λ n. 12 * min 2 n) p.columns, p.columns)
