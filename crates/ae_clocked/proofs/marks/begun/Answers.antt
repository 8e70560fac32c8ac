-- The nets of a register that begins anew, one after another, and what they hold.
use Rattle.std.proofs.Common.{arith, refl}
use Rattle.ae_netlist.proofs.Carried.{carries_later}
use Rattle.ae_gates.proofs.Added.{grows_length, back}
use Rattle.ae_clocked.proofs.Marked.{bit_is}
use Rattle.ae_gates.proofs.Adding.{adds_trans, net_added}
use Rattle.ae_clocked.proofs.marks.begun.Goals as goal

pub returns-clause-words : goal.returns-clause-words
returns-clause-words c = λ all k3 run is t l.
    let g1 = c.in_ok-next.ensures.adds.grows in
    let g2 = c.in_ok-y.ensures.adds.grows in
    let l1 = grows_length c.in_ok-begin.ensures.adds.grows in
    let l2 = grows_length g1 in
    let k2 = back g2 k3 in
    let k1 = back g1 k2 in
    let begin = rw (bit_is _ _ c.from.ensures) at (c.in_ok-begin.ensures.words all k1 run is t (omega arith)) in
    let next = c.in_ok-next.ensures.words all (carries_later _ _ l1 k2) run is t (omega arith) in
    rw (c.in_ok-y.ensures.words all (carries_later _ _ (omega arith) k3) run is t l, next, begin) refl

pub choose-requires-clause-condition : goal.choose-requires-clause-condition
choose-requires-clause-condition c = net_added c.in_ok-begin.ensures.adds c.requires.rst

pub choose-requires-clause-left : goal.choose-requires-clause-left
choose-requires-clause-left c = c.in_ok-begin.ensures.net

pub choose-requires-clause-right : goal.choose-requires-clause-right
choose-requires-clause-right c = net_added c.in_ok-begin.ensures.adds c.requires.net

pub delayed-requires-clause-net : goal.delayed-requires-clause-net
delayed-requires-clause-net c = c.in_ok-next.ensures.net

pub returns-clause-net : goal.returns-clause-net
returns-clause-net c = c.in_ok-y.ensures.net

pub returns-clause-adds : goal.returns-clause-adds
returns-clause-adds c = adds_trans (adds_trans c.in_ok-begin.ensures.adds c.in_ok-next.ensures.adds) c.in_ok-y.ensures.adds

pub returns-clause-registers : goal.returns-clause-registers
returns-clause-registers c = omega (arith, c.in_ok-begin.ensures.registers, c.in_ok-next.ensures.registers, c.in_ok-y.ensures.registers)

pub returns-clause-tests : goal.returns-clause-tests
returns-clause-tests c = omega (arith, c.in_ok-begin.ensures.tests, c.in_ok-next.ensures.tests, c.in_ok-y.ensures.tests)

pub choose-requires-clause-room : goal.choose-requires-clause-room
choose-requires-clause-room c = omega (arith, c.requires.room, c.in_ok-begin.ensures.adds.cells, c.in_ok-begin.ensures.adds.grows.limit)

pub delayed-requires-clause-room : goal.delayed-requires-clause-room
delayed-requires-clause-room c =
    omega (
      arith,
      c.requires.room,
      c.in_ok-begin.ensures.adds.cells,
      c.in_ok-begin.ensures.adds.grows.limit,
      c.in_ok-next.ensures.adds.cells,
      c.in_ok-next.ensures.adds.grows.limit,
    )
