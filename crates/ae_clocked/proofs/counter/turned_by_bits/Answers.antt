-- The nets of a turn without an adder, one after another, and what they hold.
use Rattle.std.proofs.Common.{arith}
use Rattle.ae_netlist.proofs.Carried.{carries_later}
use Rattle.ae_gates.proofs.Adding.{adds_trans, net_added}
use Rattle.ae_gates.proofs.Added.{grows_length, back}
use Rattle.ae_clocked.proofs.Turns.{bits_turn}
use Rattle.ae_clocked.proofs.counter.turned_by_bits.Goals as goal

pub equal-requires-clause-left : goal.equal-requires-clause-left
equal-requires-clause-left c = net_added c.in_ok-end.ensures.adds c.requires.net

pub changed-requires-clause-net : goal.changed-requires-clause-net
changed-requires-clause-net c = net_added (adds_trans c.in_ok-end.ensures.adds c.in_ok-at_end.ensures.adds) c.requires.net

pub choose-requires-clause-condition : goal.choose-requires-clause-condition
choose-requires-clause-condition c = net_added c.in_ok-ones.ensures.adds c.in_ok-at_end.ensures.net

pub choose-requires-clause-left : goal.choose-requires-clause-left
choose-requires-clause-left c =
    net_added (adds_trans (adds_trans c.in_ok-end.ensures.adds c.in_ok-at_end.ensures.adds) c.in_ok-ones.ensures.adds) c.requires.net

pub differ-requires-clause-left : goal.differ-requires-clause-left
differ-requires-clause-left c =
    net_added (adds_trans (adds_trans (adds_trans c.in_ok-end.ensures.adds c.in_ok-at_end.ensures.adds) c.in_ok-ones.ensures.adds) c.in_ok-flips.ensures.adds)
    c.requires.net

pub returns-clause-adds : goal.returns-clause-adds
returns-clause-adds c =
    adds_trans (adds_trans (adds_trans (adds_trans c.in_ok-end.ensures.adds c.in_ok-at_end.ensures.adds) c.in_ok-ones.ensures.adds) c.in_ok-flips.ensures.adds)
    c.in_ok-next.ensures.adds

pub returns-clause-words : goal.returns-clause-words
returns-clause-words c = λ all k5 run is t l.
    let g1 = c.in_ok-at_end.ensures.adds.grows in
    let g2 = c.in_ok-ones.ensures.adds.grows in
    let g3 = c.in_ok-flips.ensures.adds.grows in
    let g4 = c.in_ok-next.ensures.adds.grows in
    let l1 = grows_length c.in_ok-end.ensures.adds.grows in
    let l2 = grows_length g1 in
    let l3 = grows_length g2 in
    let l4 = grows_length g3 in
    let k4 = back g4 k5 in
    let k3 = back g3 k4 in
    let k2 = back g2 k3 in
    let k1 = back g1 k2 in
    bits_turn _ c.args.last _ _ _ _ _
    (c.in_ok-end.ensures.words all k1 run is t l)
    (c.in_ok-at_end.ensures.words all (carries_later _ _ l1 k2) run is t l)
    (c.in_ok-ones.ensures.words all (carries_later _ _ (omega arith) k3) run is t l)
    (c.in_ok-flips.ensures.words all (carries_later _ _ (omega arith) k4) run is t l)
    (c.in_ok-next.ensures.words all (carries_later _ _ (omega arith) k5) run is t l)

pub returns-clause-registers : goal.returns-clause-registers
returns-clause-registers c =
    omega (
      arith,
      c.in_ok-end.ensures.registers,
      c.in_ok-at_end.ensures.registers,
      c.in_ok-ones.ensures.registers,
      c.in_ok-flips.ensures.registers,
      c.in_ok-next.ensures.registers,
    )

pub returns-clause-tests : goal.returns-clause-tests
returns-clause-tests c =
    omega (arith, c.in_ok-end.ensures.tests, c.in_ok-at_end.ensures.tests, c.in_ok-ones.ensures.tests, c.in_ok-flips.ensures.tests, c.in_ok-next.ensures.tests)

pub equal-requires-clause-right : goal.equal-requires-clause-right
equal-requires-clause-right c = c.in_ok-end.ensures.net

pub choose-requires-clause-right : goal.choose-requires-clause-right
choose-requires-clause-right c = c.in_ok-ones.ensures.net

pub differ-requires-clause-right : goal.differ-requires-clause-right
differ-requires-clause-right c = c.in_ok-flips.ensures.net

pub returns-clause-net : goal.returns-clause-net
returns-clause-net c = c.in_ok-next.ensures.net

pub equal-requires-clause-room : goal.equal-requires-clause-room
equal-requires-clause-room c = omega (arith, c.requires.room, c.in_ok-end.ensures.adds.cells, c.in_ok-end.ensures.adds.grows.limit)

pub changed-requires-clause-room : goal.changed-requires-clause-room
changed-requires-clause-room c =
    omega (
      arith,
      c.requires.room,
      c.in_ok-end.ensures.adds.cells,
      c.in_ok-end.ensures.adds.grows.limit,
      c.in_ok-at_end.ensures.adds.cells,
      c.in_ok-at_end.ensures.adds.grows.limit,
    )

pub choose-requires-clause-room : goal.choose-requires-clause-room
choose-requires-clause-room c =
    omega (
      arith,
      c.requires.room,
      c.in_ok-end.ensures.adds.cells,
      c.in_ok-end.ensures.adds.grows.limit,
      c.in_ok-at_end.ensures.adds.cells,
      c.in_ok-at_end.ensures.adds.grows.limit,
      c.in_ok-ones.ensures.adds.cells,
      c.in_ok-ones.ensures.adds.grows.limit,
    )

pub differ-requires-clause-room : goal.differ-requires-clause-room
differ-requires-clause-room c =
    omega (
      arith,
      c.requires.room,
      c.in_ok-end.ensures.adds.cells,
      c.in_ok-end.ensures.adds.grows.limit,
      c.in_ok-at_end.ensures.adds.cells,
      c.in_ok-at_end.ensures.adds.grows.limit,
      c.in_ok-ones.ensures.adds.cells,
      c.in_ok-ones.ensures.adds.grows.limit,
      c.in_ok-flips.ensures.adds.cells,
      c.in_ok-flips.ensures.adds.grows.limit,
    )
