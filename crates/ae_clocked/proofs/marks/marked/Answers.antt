-- A mark by what it is made of: nothing, a test of the counter, or a register that begins or turns by such tests.
use Rattle.std.proofs.Common.{◌≡◌, ◌-◌, ◌<◌, ◌≤◌, arith}
use Rattle.ae_netlist.proofs.Growing.{extends_trans}
use Rattle.ae_netlist.proofs.Carried.{carries_extends}
use Rattle.ae_gates.proofs.Adding.{adds_most, adds_trans, net_added}
use Rattle.ae_clocked.proofs.Belonging.{counter_grows}
use Rattle.ae_clocked.proofs.Marked.{always_marks, alternates, at_is, begins_marks, never_marks, turns_mark}
use Rattle.ae_clocked.proofs.marks.marked.Goals as goal

pub returns-then-from-eq0-clause-marks : goal.returns-then-from-eq0-clause-marks
returns-then-from-eq0-clause-marks c = λ all e run is start reset.
    let none : c.args.from ≡ 0 = c.if-from-eq0.true in
    rw none (never_marks run _ c.args.period c.args.offset start (c.in_ok-never.ensures.words all (carries_extends _ e) run is))

pub returns-then-from-period-clause-marks : goal.returns-then-from-period-clause-marks
returns-then-from-period-clause-marks c = λ all e run is start reset.
    let whole : c.args.from ≡ c.args.period = c.if-from-period.true in
    rw whole (always_marks run _ c.args.period c.args.offset start c.requires.low (c.in_ok-always.ensures.words all (carries_extends _ e) run is))

pub returns-then-period-eq2-clause-marks : goal.returns-then-period-eq2-clause-marks
returns-then-period-eq2-clause-marks c = λ all e run is start reset.
    let two : c.args.period ≡ 2 = c.if-period-eq2.true in
    let one : c.args.from ≡ 1 = omega (arith, c.requires.within, c.if-from-eq0.false, c.if-from-period.false) in
    let e0 = extends_trans c.in_ok-now.ensures.adds.grows.extends e in
    alternates run _ c.args.period c.args.offset c.args.from start one
    (at_is run _ _ c.args.period c.args.offset c.args.at 0 start c.requires.low c.requires.begins (omega arith)
    (c.requires.counter.words all e0 run is start reset) (c.in_ok-now.ensures.words all (carries_extends _ e) run is))

pub returns-then-from-eq1-clause-adds : goal.returns-then-from-eq1-clause-adds
returns-then-from-eq1-clause-adds c = adds_most 9 (omega arith) (adds_trans c.in_ok-begins.ensures.adds c.in_ok-y.ensures.adds)

pub returns-then-from-eq1-clause-marks : goal.returns-then-from-eq1-clause-marks
returns-then-from-eq1-clause-marks c = λ all e run is start reset.
    let one : c.args.from ≡ 1 = c.if-from-eq1.true in
    let e1 = extends_trans c.in_ok-y.ensures.adds.grows.extends e in
    let e0 = extends_trans c.in_ok-begins.ensures.adds.grows.extends e1 in
    let last = at_is run _ _ c.args.period c.args.offset c.args.at (c.args.period - 1) start c.requires.low c.requires.begins (omega arith)
    (c.requires.counter.words all e0 run is start reset) (c.in_ok-begins.ensures.words all (carries_extends _ e1) run is) in
    let begins = rw one at (c.in_ok-y.ensures.words all (carries_extends _ e) run is) in
    rw one (begins_marks run _ _ _ c.args.period c.args.offset c.requires.counter.width start c.requires.low c.requires.counter.holds.enough last begins reset)

pub at_phase-requires-3-clause-counter : goal.at_phase-requires-3-clause-counter
at_phase-requires-3-clause-counter c = (c.args.rst.0, counter_grows _ _ _ _ _ c.in_ok-begins.ensures.adds.grows.extends c.requires.counter)

pub returns-clause-adds : goal.returns-clause-adds
returns-clause-adds c = adds_trans (adds_trans c.in_ok-begins.ensures.adds c.in_ok-ends.ensures.adds) c.in_ok-y-2.ensures.adds

pub returns-clause-marks : goal.returns-clause-marks
returns-clause-marks c = λ all e run is start reset.
    let e2 = extends_trans c.in_ok-y-2.ensures.adds.grows.extends e in
    let e1 = extends_trans c.in_ok-ends.ensures.adds.grows.extends e2 in
    let e0 = extends_trans c.in_ok-begins.ensures.adds.grows.extends e1 in
    let some : 1 ≤ c.args.from = omega (arith, c.if-from-eq0.false) in
    let few : c.args.from < c.args.period = omega (arith, c.requires.within, c.if-from-period.false) in
    let counts = c.requires.counter.words all e0 run is start reset in
    let last = at_is run _ _ c.args.period c.args.offset c.args.at (c.args.period - 1) start c.requires.low c.requires.begins (omega arith)
    counts (c.in_ok-begins.ensures.words all (carries_extends _ e1) run is) in
    let leaves = at_is run _ _ c.args.period c.args.offset c.args.at (c.args.from - 1) start c.requires.low c.requires.begins (omega arith)
    counts (c.in_ok-ends.ensures.words all (carries_extends _ e2) run is) in
    turns_mark run _ _ _ _ c.args.period c.args.offset c.requires.counter.width c.args.from start c.requires.low c.requires.counter.holds.enough some few last
    leaves
    (c.in_ok-y-2.ensures.words all (carries_extends _ e) run is) reset

pub at_phase-requires-clause-counter : goal.at_phase-requires-clause-counter
at_phase-requires-clause-counter c = (c.args.rst.0, c.requires.counter)

pub at_phase-requires-2-clause-counter : goal.at_phase-requires-2-clause-counter
at_phase-requires-2-clause-counter c = (c.args.rst.0, c.requires.counter)

pub begun-requires-clause-rst : goal.begun-requires-clause-rst
begun-requires-clause-rst c = net_added c.in_ok-begins.ensures.adds c.requires.rst

pub begun-requires-clause-net : goal.begun-requires-clause-net
begun-requires-clause-net c = c.in_ok-begins.ensures.net

pub turning-requires-clause-rst : goal.turning-requires-clause-rst
turning-requires-clause-rst c = net_added (adds_trans c.in_ok-begins.ensures.adds c.in_ok-ends.ensures.adds) c.requires.rst

pub turning-requires-clause-left : goal.turning-requires-clause-left
turning-requires-clause-left c = net_added c.in_ok-ends.ensures.adds c.in_ok-begins.ensures.net

pub turning-requires-clause-right : goal.turning-requires-clause-right
turning-requires-clause-right c = c.in_ok-ends.ensures.net

pub returns-then-from-eq0-clause-adds : goal.returns-then-from-eq0-clause-adds
returns-then-from-eq0-clause-adds c = adds_most 9 (omega arith) c.in_ok-never.ensures.adds

pub returns-then-from-eq0-clause-registers : goal.returns-then-from-eq0-clause-registers
returns-then-from-eq0-clause-registers c = omega (arith, c.in_ok-never.ensures.registers)

pub returns-then-from-eq0-clause-tests : goal.returns-then-from-eq0-clause-tests
returns-then-from-eq0-clause-tests c = omega (arith, c.in_ok-never.ensures.tests)

pub returns-then-from-period-clause-adds : goal.returns-then-from-period-clause-adds
returns-then-from-period-clause-adds c = adds_most 9 (omega arith) c.in_ok-always.ensures.adds

pub returns-then-from-period-clause-registers : goal.returns-then-from-period-clause-registers
returns-then-from-period-clause-registers c = omega (arith, c.in_ok-always.ensures.registers)

pub returns-then-from-period-clause-tests : goal.returns-then-from-period-clause-tests
returns-then-from-period-clause-tests c = omega (arith, c.in_ok-always.ensures.tests)

pub returns-then-period-eq2-clause-adds : goal.returns-then-period-eq2-clause-adds
returns-then-period-eq2-clause-adds c = adds_most 9 (omega arith) c.in_ok-now.ensures.adds

pub returns-then-period-eq2-clause-registers : goal.returns-then-period-eq2-clause-registers
returns-then-period-eq2-clause-registers c = omega (arith, c.in_ok-now.ensures.registers)

pub returns-then-period-eq2-clause-tests : goal.returns-then-period-eq2-clause-tests
returns-then-period-eq2-clause-tests c = omega (arith, c.in_ok-now.ensures.tests)

pub returns-then-from-eq1-clause-registers : goal.returns-then-from-eq1-clause-registers
returns-then-from-eq1-clause-registers c = omega (arith, c.in_ok-begins.ensures.registers, c.in_ok-y.ensures.registers)

pub returns-then-from-eq1-clause-tests : goal.returns-then-from-eq1-clause-tests
returns-then-from-eq1-clause-tests c = omega (arith, c.in_ok-begins.ensures.tests, c.in_ok-y.ensures.tests)

pub returns-clause-registers : goal.returns-clause-registers
returns-clause-registers c = omega (arith, c.in_ok-begins.ensures.registers, c.in_ok-ends.ensures.registers, c.in_ok-y-2.ensures.registers)

pub returns-clause-tests : goal.returns-clause-tests
returns-clause-tests c = omega (arith, c.in_ok-begins.ensures.tests, c.in_ok-ends.ensures.tests, c.in_ok-y-2.ensures.tests)

pub returns-then-from-eq0-clause-net : goal.returns-then-from-eq0-clause-net
returns-then-from-eq0-clause-net c = c.in_ok-never.ensures.net

pub returns-then-from-period-clause-net : goal.returns-then-from-period-clause-net
returns-then-from-period-clause-net c = c.in_ok-always.ensures.net

pub returns-then-period-eq2-clause-net : goal.returns-then-period-eq2-clause-net
returns-then-period-eq2-clause-net c = c.in_ok-now.ensures.net

pub returns-then-from-eq1-clause-net : goal.returns-then-from-eq1-clause-net
returns-then-from-eq1-clause-net c = c.in_ok-y.ensures.net

pub returns-clause-net : goal.returns-clause-net
returns-clause-net c = c.in_ok-y-2.ensures.net

pub begun-requires-clause-room : goal.begun-requires-clause-room
begun-requires-clause-room c = omega (arith, c.requires.room, c.in_ok-begins.ensures.adds.cells, c.in_ok-begins.ensures.adds.grows.limit)

pub at_phase-requires-3-clause-room : goal.at_phase-requires-3-clause-room
at_phase-requires-3-clause-room c = omega (arith, c.requires.room, c.in_ok-begins.ensures.adds.cells, c.in_ok-begins.ensures.adds.grows.limit)

pub turning-requires-clause-room : goal.turning-requires-clause-room
turning-requires-clause-room c =
    omega (
      arith,
      c.requires.room,
      c.in_ok-begins.ensures.adds.cells,
      c.in_ok-begins.ensures.adds.grows.limit,
      c.in_ok-ends.ensures.adds.cells,
      c.in_ok-ends.ensures.adds.grows.limit,
    )
