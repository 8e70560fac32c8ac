-- Rings, the places that are read, what is read, and the plan on it.
use Rattle.std.proofs.Common.{ℕ, ◌≡◌, ◌≤◌, ◌+◌, ◌*◌, length, arith, refl, ap, ◌∙◌}
use Rattle.std.proofs.lemmas.List.{length-map}
use Rattle.ae_netlist.proofs.Growing.{net_later}
use Rattle.ae_gates.proofs.Adding.{grows_trans}
use Rattle.ae_clocked.proofs.Belonging.{belongs_grows}
use Rattle.ae_columns.specs.Plans.{AreWithin}
use Rattle.ae_gather.specs.Readers.{AreReads}
use Rattle.ae_gather.specs.Reads.{read_trip}
use Rattle.ae_gather.proofs.Building.{fitting_grows}
use Rattle.ae_gather.proofs.Rereads.{fitting_read, placed_trip, trips_read, used_placed, used_read, within_placed, within_read}
use Rattle.ae_gather.proofs.Ringing.{reads_later, reads_nets, rings_grow}
use Rattle.ae_gather.proofs.Showing.{fits_placed, shows_later}
use Rattle.ae_gather.proofs.reading.build_reading.Goals as goal
use Rattle.ae_clocked.proofs.InRow.{keeps_trans}

-- ---- room for what rings, places, reads and the plan take

plan_room : (a b c d e r o s l p m k j : ℕ) → k ≡ o → j ≡ o → b ≤ a + 14 * r → c ≤ b + (12 + (s + 3 * o)) → d ≤ c + 3 * k →
    e ≤ d + (m + l + p + 3 * j) → e ≤ a + (12 + 14 * r + 6 * o + s + l + p + m + 3 * o)
plan_room a b c d e r o s l p m k j q n f g h i = omega arith

kept_muls : (a b c : ℕ) → b ≡ a → c ≡ b + 0 → c ≡ a
kept_muls a b c e f = omega arith

plan_memories : (a b c r l : ℕ) → b ≤ a + r → c ≤ b + l → c ≤ a + (r + l)
plan_memories a b c r l f g = omega arith

pub returns-clause-belongs : goal.returns-clause-belongs
returns-clause-belongs c = c.in_ok-out.ensures.belongs

pub returns-clause-cells : goal.returns-clause-cells
returns-clause-cells c =
    let h = c.requires.reading in
    plan_room _ _ _ _ _ _ _ _ _ _ _ _ _ h.from h.columns c.in_ok-rings.ensures.adds.cells c.in_ok-places.ensures.adds.cells
    c.in_ok-all.ensures.adds.cells c.in_ok-out.ensures.cells

pub returns-clause-muls : goal.returns-clause-muls
returns-clause-muls c =
    c.in_ok-out.ensures.muls ∙ kept_muls _ _ _ (kept_muls _ _ _ c.in_ok-rings.ensures.adds.muls c.in_ok-places.ensures.adds.muls) c.in_ok-all.ensures.adds.muls

pub returns-clause-memories : goal.returns-clause-memories
returns-clause-memories c =
    plan_memories _ _ _ _ _ (rw (c.in_ok-all.ensures.adds.memories, c.in_ok-places.ensures.adds.memories) c.in_ok-rings.ensures.adds.memories)
    c.in_ok-out.ensures.memories

pub returns-clause-whole : goal.returns-clause-whole
returns-clause-whole c = λ h.
    c.in_ok-out.ensures.whole (c.in_ok-all.ensures.adds.whole (c.in_ok-places.ensures.adds.whole (c.in_ok-rings.ensures.adds.whole h)))

pub returns-clause-long : goal.returns-clause-long
returns-clause-long c = c.in_ok-out.ensures.long

pub returns-clause-nets : goal.returns-clause-nets
returns-clause-nets c = c.in_ok-out.ensures.nets

pub all_rings-requires-clause-long : goal.all_rings-requires-clause-long
all_rings-requires-clause-long c = let h = c.requires.reading in omega (arith, h.rings)

pub place_nets-requires-clause-below : goal.place_nets-requires-clause-below
place_nets-requires-clause-below c = λ n t f.
    let h = c.requires.reading in
    let o = placed_trip c.args.times.latency (length c.args.trips.now) n c.args.reading.now.reads c.args.trips.now c.args.reading.now.places.items t refl
    h.places f in
    rw o.3 (c.limit_of-limit.ensures.below n o.0 o.1)

pub place_nets-requires-clause-within : goal.place_nets-requires-clause-within
place_nets-requires-clause-within c =
    let h = c.requires.reading in within_placed c.args.times.period c.args.times.latency (length c.args.trips.now) (length c.args.ins.now)
    (length c.args.widths.now) c.args.reading.now.reads c.args.trips.now c.args.reading.now.places.items refl h.places c.requires.within

pub place_nets-requires-clause-used : goal.place_nets-requires-clause-used
place_nets-requires-clause-used c =
    let h = c.requires.reading in used_placed c.args.times.latency (length c.args.trips.now)
    (length c.args.widths.now) c.args.reading.now.reads c.args.trips.now c.args.reading.now.places.items refl h.places c.requires.used

pub place_nets-requires-clause-fits : goal.place_nets-requires-clause-fits
place_nets-requires-clause-fits c =
    let h = c.requires.reading in fits_placed _ c.args.times.latency
    (length c.args.trips.now) c.args.reading.now.reads c.args.trips.now c.args.reading.now.places.items refl h.places

pub place_nets-requires-clause-none : goal.place_nets-requires-clause-none
place_nets-requires-clause-none c = let h = c.requires.reading in h.none

pub place_nets-requires-clause-columns : goal.place_nets-requires-clause-columns
place_nets-requires-clause-columns c = let h = c.requires.reading in h.shown

pub place_nets-requires-clause-plan : goal.place_nets-requires-clause-plan
place_nets-requires-clause-plan c = let h = c.requires.reading in h.shows

pub all_reads-requires-clause-places : goal.all_reads-requires-clause-places
all_reads-requires-clause-places c = λ q l. let h = c.requires.reading in rw c.deref-2.ensures.value (c.in_ok-places.ensures.nets q (omega (arith, l, h.from)))

pub all_reads-requires-clause-shown : goal.all_reads-requires-clause-shown
all_reads-requires-clause-shown c = let h = c.requires.reading in rw c.deref-2.ensures.value (omega (arith, c.in_ok-places.ensures.long, h.from))

pub all_reads-requires-clause-rings : goal.all_reads-requires-clause-rings
all_reads-requires-clause-rings c =
    let made = rings_grow c.in_ok-places.ensures.adds.grows.extends c.in_ok-rings.ensures.rings in (c.args.clocks.now.rst, rw c.deref.ensures.value made)

pub all_reads-requires-clause-long : goal.all_reads-requires-clause-long
all_reads-requires-clause-long c = let h = c.requires.reading in omega (arith, h.rings)

pub build_plan-requires-clause-few : goal.build_plan-requires-clause-few
build_plan-requires-clause-few c =
    let h = c.requires.reading in
    let count : length c.args.reading.now.trips.items ≡ length c.args.trips.now = ap length h.taken ∙
    length-map c.args.trips.now (read_trip c.args.times.latency c.args.reading.now.reads) in
    rw c.deref-4.ensures.value (omega (arith, count, c.requires.few))

pub build_plan-requires-clause-nets : goal.build_plan-requires-clause-nets
build_plan-requires-clause-nets c =
    let h = c.requires.reading in
    let made = rings_grow c.in_ok-places.ensures.adds.grows.extends c.in_ok-rings.ensures.rings in
    let all : AreReads (length c.args.widths.now) c.all_reads.new.nl.cells c.args.clocks.now.rst c.args.reading.now.reads c.args.ins.now
    c.in_ok-places.places.items c.in_ok-all.all.items = rw (c.deref-2.ensures.value, h.from) at
    (c.in_ok-all.ensures.reads c.args.clocks.now.rst (rw c.deref.ensures.value made)) in
    let g = grows_trans c.in_ok-rings.ensures.adds.grows (grows_trans c.in_ok-places.ensures.adds.grows c.in_ok-all.ensures.adds.grows) in
    rw c.deref-3.ensures.value (reads_nets _ _ _ _ c.args.ins.now c.in_ok-places.places.items _
    (λ q l. (let n = c.requires.nets q l in (n.0, net_later g.extends n.1))) all)

pub build_plan-requires-clause-within : goal.build_plan-requires-clause-within
build_plan-requires-clause-within c =
    let h = c.requires.reading in
    let made = rings_grow c.in_ok-places.ensures.adds.grows.extends c.in_ok-rings.ensures.rings in
    let all : AreReads (length c.args.widths.now) c.all_reads.new.nl.cells c.args.clocks.now.rst c.args.reading.now.reads c.args.ins.now
    c.in_ok-places.places.items c.in_ok-all.all.items = rw (c.deref-2.ensures.value, h.from) at
    (c.in_ok-all.ensures.reads c.args.clocks.now.rst (rw c.deref.ensures.value made)) in
    let within : AreWithin c.args.times.period c.args.times.latency (length c.args.reading.now.reads.rings.items)
    (length c.args.widths.now) c.args.trips.now = rw h.rings c.requires.within in
    let count : length c.in_ok-all.all.items ≡ length c.args.reading.now.reads.rings.items + length c.args.widths.now = omega (arith, all.long, h.rings) in
    rw (c.deref-3.ensures.value, c.deref-4.ensures.value, count)
    (within_read c.args.times.period c.args.times.latency
    (length c.args.widths.now) c.args.reading.now.reads c.args.trips.now c.args.reading.now.trips.items h.taken within)

pub build_plan-requires-clause-used : goal.build_plan-requires-clause-used
build_plan-requires-clause-used c =
    let h = c.requires.reading in rw c.deref-4.ensures.value
    (used_read c.args.times.latency (length c.args.widths.now) c.args.reading.now.reads c.args.trips.now c.args.reading.now.trips.items h.taken c.requires.used)

pub build_plan-requires-clause-fitting : goal.build_plan-requires-clause-fitting
build_plan-requires-clause-fitting c =
    let h = c.requires.reading in
    let made = rings_grow c.in_ok-places.ensures.adds.grows.extends c.in_ok-rings.ensures.rings in
    let all : AreReads (length c.args.widths.now) c.all_reads.new.nl.cells c.args.clocks.now.rst c.args.reading.now.reads c.args.ins.now
    c.in_ok-places.places.items c.in_ok-all.all.items = rw (c.deref-2.ensures.value, h.from) at
    (c.in_ok-all.ensures.reads c.args.clocks.now.rst (rw c.deref.ensures.value made)) in
    let within : AreWithin c.args.times.period c.args.times.latency (length c.args.reading.now.reads.rings.items)
    (length c.args.widths.now) c.args.trips.now = rw h.rings c.requires.within in
    let g = grows_trans c.in_ok-rings.ensures.adds.grows (grows_trans c.in_ok-places.ensures.adds.grows c.in_ok-all.ensures.adds.grows) in
    let grown = fitting_grows _ _ c.args.ins.now c.args.widths.now c.args.trips.now g.extends c.requires.fitting in
    rw (c.deref-3.ensures.value, c.deref-4.ensures.value)
    (fitting_read c.args.times.period c.args.times.latency (length c.args.widths.now) _ _ c.args.reading.now.reads c.args.ins.now c.in_ok-places.places.items
    c.in_ok-all.all.items c.args.widths.now c.args.trips.now c.args.reading.now.trips.items h.taken (omega (arith, h.rings)) all within grown)

pub build_plan-requires-clause-early : goal.build_plan-requires-clause-early
build_plan-requires-clause-early c = let h = c.requires.reading in h.early

pub build_plan-requires-clause-time : goal.build_plan-requires-clause-time
build_plan-requires-clause-time c = let h = c.requires.reading in rw c.deref-4.ensures.value h.time

pub build_plan-requires-clause-moved : goal.build_plan-requires-clause-moved
build_plan-requires-clause-moved c = let h = c.requires.reading in rw c.deref-4.ensures.value h.moved

pub build_plan-requires-clause-lines : goal.build_plan-requires-clause-lines
build_plan-requires-clause-lines c =
    let h = c.requires.reading in
    let made = rings_grow c.in_ok-places.ensures.adds.grows.extends c.in_ok-rings.ensures.rings in
    let all : AreReads (length c.args.widths.now) c.all_reads.new.nl.cells c.args.clocks.now.rst c.args.reading.now.reads c.args.ins.now
    c.in_ok-places.places.items c.in_ok-all.all.items = rw (c.deref-2.ensures.value, h.from) at
    (c.in_ok-all.ensures.reads c.args.clocks.now.rst (rw c.deref.ensures.value made)) in
    rw c.deref-3.ensures.value (omega (arith, all.long, h.lines))

pub build_plan-requires-clause-columns : goal.build_plan-requires-clause-columns
build_plan-requires-clause-columns c = let h = c.requires.reading in h.columns

pub build_plan-requires-clause-plan : goal.build_plan-requires-clause-plan
build_plan-requires-clause-plan c = let h = c.requires.reading in h.plan

pub build_plan-requires-clause-taps : goal.build_plan-requires-clause-taps
build_plan-requires-clause-taps c =
    let h = c.requires.reading in
    let count : length c.args.reading.now.trips.items ≡ length c.args.trips.now = ap length h.taken ∙
    length-map c.args.trips.now (read_trip c.args.times.latency c.args.reading.now.reads) in
    rw (c.deref-4.ensures.value, count) h.few

pub build_plan-requires-clause-belongs : goal.build_plan-requires-clause-belongs
build_plan-requires-clause-belongs c = belongs_grows _ _ _ c.in_ok-all.ensures.adds.grows c.in_ok-places.ensures.belongs

pub returns-clause-grows : goal.returns-clause-grows
returns-clause-grows c =
    grows_trans c.in_ok-rings.ensures.adds.grows (grows_trans c.in_ok-places.ensures.adds.grows
    (grows_trans c.in_ok-all.ensures.adds.grows c.in_ok-out.ensures.grows))

pub returns-clause-keeps : goal.returns-clause-keeps
returns-clause-keeps c = keeps_trans c.in_ok-rings.ensures.keeps (keeps_trans c.in_ok-places.ensures.keeps c.in_ok-out.ensures.keeps)

pub returns-clause-trips : goal.returns-clause-trips
returns-clause-trips c =
    let h = c.requires.reading in
    let made = rings_grow c.in_ok-places.ensures.adds.grows.extends c.in_ok-rings.ensures.rings in
    let all : AreReads (length c.args.widths.now) c.all_reads.new.nl.cells c.args.clocks.now.rst c.args.reading.now.reads c.args.ins.now
    c.in_ok-places.places.items c.in_ok-all.all.items = rw (c.deref-2.ensures.value, h.from) at
    (c.in_ok-all.ensures.reads c.args.clocks.now.rst (rw c.deref.ensures.value made)) in
    let within : AreWithin c.args.times.period c.args.times.latency (length c.args.reading.now.reads.rings.items)
    (length c.args.widths.now) c.args.trips.now = rw h.rings c.requires.within in
    let shows = shows_later _ _ _ _ _ _ _ _ (grows_trans c.in_ok-all.ensures.adds.grows c.in_ok-out.ensures.grows).extends
    (rw c.in_ok-rings.ensures.keeps.rst at c.in_ok-places.ensures.shows) in
    let read = reads_later c.in_ok-out.ensures.grows.extends all in
    let made_trips = rw (c.deref-3.ensures.value, c.deref-4.ensures.value, c.in_ok-places.ensures.keeps.rst, c.in_ok-rings.ensures.keeps.rst) at
    c.in_ok-out.ensures.trips in
    trips_read _ _ c.args.times.period c.args.times.latency c.args.times.arrival
    (length c.args.widths.now) c.args.reading.now.reads c.args.ins.now c.in_ok-places.places.items
    c.in_ok-all.all.items _ c.args.trips.now c.args.reading.now.places.items c.args.reading.now.trips.items h.taken
    (omega (arith, h.rings)) read h.places shows within made_trips

pub returns-clause-counted : goal.returns-clause-counted
returns-clause-counted c =
    let rings = c.in_ok-rings.ensures.counted in
    let places = c.in_ok-places.ensures.counted in
    let reads = c.in_ok-all.ensures.counted in
    let out = c.in_ok-out.ensures.counted in
    record {
      registers = omega (arith, rings.registers, places.registers, reads.registers, out.registers);
      tests = omega (arith, rings.tests, places.tests, reads.tests, out.tests);
    }

pub all_rings-requires-clause-room : goal.all_rings-requires-clause-room
all_rings-requires-clause-room c =
    omega (arith, c.requires.room)

pub place_nets-requires-clause-room : goal.place_nets-requires-clause-room
place_nets-requires-clause-room c =
    omega (arith, c.requires.room, c.in_ok-rings.ensures.adds.cells, c.in_ok-rings.ensures.adds.grows.limit)

pub all_reads-requires-clause-room : goal.all_reads-requires-clause-room
all_reads-requires-clause-room c =
    omega (
      arith,
      c.requires.room,
      c.requires.reading.from,
      c.in_ok-rings.ensures.adds.cells,
      c.in_ok-rings.ensures.adds.grows.limit,
      c.in_ok-places.ensures.adds.cells,
      c.in_ok-places.ensures.adds.grows.limit,
    )

pub build_plan-requires-clause-room : goal.build_plan-requires-clause-room
build_plan-requires-clause-room c =
    omega (
      arith,
      c.requires.room,
      c.requires.reading.from,
      c.requires.reading.columns,
      c.in_ok-rings.ensures.adds.cells,
      c.in_ok-rings.ensures.adds.grows.limit,
      c.in_ok-places.ensures.adds.cells,
      c.in_ok-places.ensures.adds.grows.limit,
      c.in_ok-all.ensures.adds.cells,
      c.in_ok-all.ensures.adds.grows.limit,
    )
