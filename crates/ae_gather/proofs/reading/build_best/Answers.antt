-- What is built with rings, where these take no more, and what is built without them.
use Rattle.std.proofs.Common.{ℕ, ◌≡◌, ◌<◌, ◌≤◌, ◌+◌, ◌*◌, ◌^◌, arith}
use Rattle.ae_columns.proofs.Counted.{counted_most, tests_few}
use Rattle.ae_gather.proofs.reading.build_best.Goals as goal

below_limit : (a b n : ℕ) → a < b → b ≤ n → a < n
below_limit a b n h l = omega arith

few_of : (a b n : ℕ) → a ≤ b → b < n → a < n
few_of a b n h l = omega arith

both_few : (a b : ℕ) → a < 2147483648 → b < 2147483648 → a + b < 2 ^ 32
both_few a b h l = omega arith

rings_room : (a b r o s l p m x y k : ℕ) → k ≡ o → 12 + 14 * r + 6 * o + s + l + p ≤ x + y → b ≤ a + (12 + 14 * r + 6 * o + s + l + p + m + 3 * o) →
    b ≤ a + (m + x + y + 3 * k)
rings_room a b r o s l p m x y k e f g = omega arith

rings_memories : (a b r x : ℕ) → r ≤ x → b ≤ a + r → b ≤ a + x
rings_memories a b r x f g = omega arith

pub plan_reading-requires-clause-few_nets : goal.plan_reading-requires-clause-few_nets
plan_reading-requires-clause-few_nets c = both_few _ _ c.if-ins-lt2147483648.true c.if-widths-lt2147483648.true

pub plan_reading-requires-clause-within : goal.plan_reading-requires-clause-within
plan_reading-requires-clause-within c =
    let w = c.requires.within in
    record { clock = λ n t f. below_limit _ _ _ (w.clock n t f) c.requires.limit; column = w.column; reached = w.reached; source = w.source }

pub is_no_dearer-requires-clause-few : goal.is_no_dearer-requires-clause-few
is_no_dearer-requires-clause-few c = λ q ages f. few_of _ _ _ (c.in_ok-reading.ensures.few q ages f) c.requires.few

pub is_no_dearer-requires-clause-few_lines : goal.is_no_dearer-requires-clause-few_lines
is_no_dearer-requires-clause-few_lines c = λ q ages f. few_of _ _ _ (c.requires.taps q ages f) c.requires.few

pub build_reading-requires-clause-belongs : goal.build_reading-requires-clause-belongs
build_reading-requires-clause-belongs c = c.requires.belongs

pub build_reading-requires-clause-lasting : goal.build_reading-requires-clause-lasting
build_reading-requires-clause-lasting c = c.requires.lasting

pub build_reading-requires-clause-limit : goal.build_reading-requires-clause-limit
build_reading-requires-clause-limit c = c.requires.limit

pub build_reading-requires-clause-latency : goal.build_reading-requires-clause-latency
build_reading-requires-clause-latency c = c.requires.latency

pub build_reading-requires-clause-few : goal.build_reading-requires-clause-few
build_reading-requires-clause-few c = c.requires.few

pub build_reading-requires-clause-nets : goal.build_reading-requires-clause-nets
build_reading-requires-clause-nets c = c.requires.nets

pub build_reading-requires-clause-order : goal.build_reading-requires-clause-order
build_reading-requires-clause-order c = c.requires.order

pub build_reading-requires-clause-within : goal.build_reading-requires-clause-within
build_reading-requires-clause-within c = c.requires.within

pub build_reading-requires-clause-used : goal.build_reading-requires-clause-used
build_reading-requires-clause-used c = c.requires.used

pub build_reading-requires-clause-fitting : goal.build_reading-requires-clause-fitting
build_reading-requires-clause-fitting c = c.requires.fitting

pub build_reading-requires-clause-some : goal.build_reading-requires-clause-some
build_reading-requires-clause-some c = c.requires.some

pub build_reading-requires-clause-reading : goal.build_reading-requires-clause-reading
build_reading-requires-clause-reading c = c.in_ok-reading.ensures

pub returns-then-is_no_dearer-clause-belongs : goal.returns-then-is_no_dearer-clause-belongs
returns-then-is_no_dearer-clause-belongs c = c.in_ok-out.ensures.belongs

pub returns-then-is_no_dearer-clause-keeps : goal.returns-then-is_no_dearer-clause-keeps
returns-then-is_no_dearer-clause-keeps c = c.in_ok-out.ensures.keeps

pub returns-then-is_no_dearer-clause-grows : goal.returns-then-is_no_dearer-clause-grows
returns-then-is_no_dearer-clause-grows c = c.in_ok-out.ensures.grows

pub returns-then-is_no_dearer-clause-muls : goal.returns-then-is_no_dearer-clause-muls
returns-then-is_no_dearer-clause-muls c = c.in_ok-out.ensures.muls

pub returns-then-is_no_dearer-clause-cells : goal.returns-then-is_no_dearer-clause-cells
returns-then-is_no_dearer-clause-cells c =
    let n = c.is_no_dearer.ensures c.if-is_no_dearer.true in
    rings_room _ _ _ _ _ _ _ _ _ _ _ c.requires.columns n.cells c.in_ok-out.ensures.cells

pub returns-then-is_no_dearer-clause-memories : goal.returns-then-is_no_dearer-clause-memories
returns-then-is_no_dearer-clause-memories c =
    let n = c.is_no_dearer.ensures c.if-is_no_dearer.true in
    rings_memories _ _ _ _ n.memories c.in_ok-out.ensures.memories

pub returns-then-is_no_dearer-clause-whole : goal.returns-then-is_no_dearer-clause-whole
returns-then-is_no_dearer-clause-whole c = c.in_ok-out.ensures.whole

pub returns-then-is_no_dearer-clause-long : goal.returns-then-is_no_dearer-clause-long
returns-then-is_no_dearer-clause-long c = c.in_ok-out.ensures.long

pub returns-then-is_no_dearer-clause-nets : goal.returns-then-is_no_dearer-clause-nets
returns-then-is_no_dearer-clause-nets c = c.in_ok-out.ensures.nets

pub returns-then-is_no_dearer-clause-trips : goal.returns-then-is_no_dearer-clause-trips
returns-then-is_no_dearer-clause-trips c = c.in_ok-out.ensures.trips

pub build_plan-requires-clause-belongs : goal.build_plan-requires-clause-belongs
build_plan-requires-clause-belongs c = c.requires.belongs

pub build_plan-requires-clause-lasting : goal.build_plan-requires-clause-lasting
build_plan-requires-clause-lasting c = c.requires.lasting

pub build_plan-requires-clause-limit : goal.build_plan-requires-clause-limit
build_plan-requires-clause-limit c = c.requires.limit

pub build_plan-requires-clause-few : goal.build_plan-requires-clause-few
build_plan-requires-clause-few c = c.requires.few

pub build_plan-requires-clause-nets : goal.build_plan-requires-clause-nets
build_plan-requires-clause-nets c = c.requires.nets

pub build_plan-requires-clause-within : goal.build_plan-requires-clause-within
build_plan-requires-clause-within c = c.requires.within

pub build_plan-requires-clause-used : goal.build_plan-requires-clause-used
build_plan-requires-clause-used c = c.requires.used

pub build_plan-requires-clause-fitting : goal.build_plan-requires-clause-fitting
build_plan-requires-clause-fitting c = c.requires.fitting

pub build_plan-requires-clause-some : goal.build_plan-requires-clause-some
build_plan-requires-clause-some c = c.requires.some

pub build_plan-requires-clause-early : goal.build_plan-requires-clause-early
build_plan-requires-clause-early c = c.requires.early

pub build_plan-requires-clause-time : goal.build_plan-requires-clause-time
build_plan-requires-clause-time c = c.requires.time

pub build_plan-requires-clause-moved : goal.build_plan-requires-clause-moved
build_plan-requires-clause-moved c = c.requires.moved

pub build_plan-requires-clause-lines : goal.build_plan-requires-clause-lines
build_plan-requires-clause-lines c = c.requires.lines

pub build_plan-requires-clause-columns : goal.build_plan-requires-clause-columns
build_plan-requires-clause-columns c = c.requires.columns

pub build_plan-requires-clause-plan : goal.build_plan-requires-clause-plan
build_plan-requires-clause-plan c = c.requires.plan

pub build_plan-requires-clause-taps : goal.build_plan-requires-clause-taps
build_plan-requires-clause-taps c = c.requires.taps

pub returns-clause-belongs : goal.returns-clause-belongs
returns-clause-belongs c = c.in_ok-out-2.ensures.belongs

pub returns-clause-keeps : goal.returns-clause-keeps
returns-clause-keeps c = c.in_ok-out-2.ensures.keeps

pub returns-clause-grows : goal.returns-clause-grows
returns-clause-grows c = c.in_ok-out-2.ensures.grows

pub returns-clause-cells : goal.returns-clause-cells
returns-clause-cells c = c.in_ok-out-2.ensures.cells

pub returns-clause-muls : goal.returns-clause-muls
returns-clause-muls c = c.in_ok-out-2.ensures.muls

pub returns-clause-memories : goal.returns-clause-memories
returns-clause-memories c = c.in_ok-out-2.ensures.memories

pub returns-clause-whole : goal.returns-clause-whole
returns-clause-whole c = c.in_ok-out-2.ensures.whole

pub returns-clause-long : goal.returns-clause-long
returns-clause-long c = c.in_ok-out-2.ensures.long

pub returns-clause-nets : goal.returns-clause-nets
returns-clause-nets c = c.in_ok-out-2.ensures.nets

pub returns-clause-trips : goal.returns-clause-trips
returns-clause-trips c = c.in_ok-out-2.ensures.trips

pub returns-then-is_no_dearer-clause-counted : goal.returns-then-is_no_dearer-clause-counted
returns-then-is_no_dearer-clause-counted c =
    let n = c.is_no_dearer.ensures c.if-is_no_dearer.true in
    counted_most _ _ n.counts.registers n.counts.tests c.in_ok-out.ensures.counted

pub returns-clause-counted : goal.returns-clause-counted
returns-clause-counted c = counted_most _ _ c.requires.spare (tests_few c.args.schedule.now.plan.columns.items) c.in_ok-out-2.ensures.counted

pub build_reading-requires-clause-room : goal.build_reading-requires-clause-room
build_reading-requires-clause-room c =
    let n = c.is_no_dearer.ensures c.if-is_no_dearer.true in
    omega (arith, c.requires.room, n.cells, c.requires.columns)
