-- A register is one clock later.
use Rattle.std.proofs.Common.{◌≡◌, ◌+◌, ◌-◌, arith}
use Rattle.ae_clocked.proofs.Behind.{kept_tap}
use Rattle.ae_gates.proofs.Adding.{adds_most, adds_trans}
use Rattle.ae_clocked.proofs.ring.ring_tap.Goals as goal

pub returns-then-tap-gt1-clause-tap : goal.returns-then-tap-gt1-clause-tap
returns-then-tap-gt1-clause-tap c =
    let more : c.args.tap - 1 + 1 ≡ c.args.tap = omega arith in
    kept_tap c.args.nl.now _ _ c.in_ok-late.late c.in_ok-word.word c.args.ring.memory c.args.ring.counter c.args.width c.args.ring.bits c.args.tap
    (c.args.tap - 1)
    c.in_ok-late.ensures.adds.grows c.in_ok-late.ensures.net c.in_ok-late.ensures.words more c.in_ok-word.ensures.tap

pub delayed-requires-clause-net : goal.delayed-requires-clause-net
delayed-requires-clause-net c = c.in_ok-word.ensures.net

pub returns-then-tap-gt1-clause-adds : goal.returns-then-tap-gt1-clause-adds
returns-then-tap-gt1-clause-adds c = adds_trans c.in_ok-word.ensures.adds c.in_ok-late.ensures.adds

pub returns-then-tap-gt1-clause-tests : goal.returns-then-tap-gt1-clause-tests
returns-then-tap-gt1-clause-tests c = omega (arith, c.in_ok-word.ensures.tests, c.in_ok-late.ensures.tests)

pub returns-then-tap-gt1-clause-net : goal.returns-then-tap-gt1-clause-net
returns-then-tap-gt1-clause-net c = c.in_ok-late.ensures.net

pub returns-clause-adds : goal.returns-clause-adds
returns-clause-adds c = adds_most 4 (omega arith) c.in_ok-y.ensures.adds

pub returns-clause-registers : goal.returns-clause-registers
returns-clause-registers c = omega (arith, c.in_ok-y.ensures.registers)

pub returns-clause-tests : goal.returns-clause-tests
returns-clause-tests c = c.in_ok-y.ensures.tests

pub returns-clause-net : goal.returns-clause-net
returns-clause-net c = c.in_ok-y.ensures.net

pub returns-clause-tap : goal.returns-clause-tap
returns-clause-tap c = c.in_ok-y.ensures.tap

pub delayed-requires-clause-room : goal.delayed-requires-clause-room
delayed-requires-clause-room c = omega (arith, c.requires.room, c.in_ok-word.ensures.adds.cells, c.in_ok-word.ensures.adds.grows.limit)
