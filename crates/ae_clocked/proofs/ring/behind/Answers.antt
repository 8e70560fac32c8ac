-- A look that is so many places behind.
use Rattle.std.proofs.Common.{◌≡◌, ◌+◌, ◌^◌, arith}
use Rattle.ae_clocked.proofs.Behind.{behind_tap}
use Rattle.ae_gates.proofs.Adding.{adds_trans, net_added}
use Rattle.ae_netlist.proofs.Growing.{extends_trans}
use Rattle.ae_clocked.proofs.Making.{memory_grows}
use Rattle.ae_clocked.proofs.ring.behind.Goals as goal

pub returns-clause-tap : goal.returns-clause-tap
returns-clause-tap c =
    let back : c.from.result + c.args.tap ≡ 2 ^ c.args.ring.bits = omega (arith, c.from.ensures, c.ring_depth-all.ensures.holds) in
    behind_tap _ _ _ _ c.in_ok-y.y c.in_ok-back.back c.in_ok-place.place c.args.ring.memory c.args.ring.counter c.args.width c.args.ring.bits c.args.tap
    c.from.result
    c.in_ok-back.ensures.adds.grows c.in_ok-place.ensures.adds.grows c.in_ok-y.ensures.adds.grows c.in_ok-y.ensures.net c.in_ok-back.ensures.words
    c.in_ok-place.ensures.words c.in_ok-y.ensures.words back c.requires.late

pub constant-requires-clause-fits : goal.constant-requires-clause-fits
constant-requires-clause-fits c = omega (arith, c.from.ensures, c.ring_depth-all.ensures.holds, c.requires.late)

pub sum-requires-clause-left : goal.sum-requires-clause-left
sum-requires-clause-left c = net_added c.in_ok-back.ensures.adds c.requires.counter

pub sum-requires-clause-right : goal.sum-requires-clause-right
sum-requires-clause-right c = c.in_ok-back.ensures.net

pub look-requires-clause-memory : goal.look-requires-clause-memory
look-requires-clause-memory c = memory_grows (extends_trans c.in_ok-back.ensures.adds.grows.extends c.in_ok-place.ensures.adds.grows.extends) c.requires.memory

pub look-requires-clause-place : goal.look-requires-clause-place
look-requires-clause-place c = c.in_ok-place.ensures.net

pub returns-clause-adds : goal.returns-clause-adds
returns-clause-adds c = adds_trans (adds_trans c.in_ok-back.ensures.adds c.in_ok-place.ensures.adds) c.in_ok-y.ensures.adds

pub returns-clause-registers : goal.returns-clause-registers
returns-clause-registers c = omega (arith, c.in_ok-back.ensures.registers, c.in_ok-place.ensures.registers, c.in_ok-y.ensures.registers)

pub returns-clause-tests : goal.returns-clause-tests
returns-clause-tests c = omega (arith, c.in_ok-back.ensures.tests, c.in_ok-place.ensures.tests, c.in_ok-y.ensures.tests)

pub sum-requires-clause-room : goal.sum-requires-clause-room
sum-requires-clause-room c = omega (arith, c.requires.room, c.in_ok-back.ensures.adds.cells, c.in_ok-back.ensures.adds.grows.limit)

pub look-requires-clause-room : goal.look-requires-clause-room
look-requires-clause-room c =
    omega (
      arith,
      c.requires.room,
      c.in_ok-back.ensures.adds.cells,
      c.in_ok-back.ensures.adds.grows.limit,
      c.in_ok-place.ensures.adds.cells,
      c.in_ok-place.ensures.adds.grows.limit,
    )
