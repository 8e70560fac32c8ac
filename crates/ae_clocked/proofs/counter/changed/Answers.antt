-- The nets of the bits that change, one after another, and what they hold.
use Rattle.std.proofs.Common.{arith}
use Rattle.ae_netlist.proofs.Carried.{carries_later}
use Rattle.ae_gates.proofs.Adding.{adds_trans, net_added}
use Rattle.ae_gates.proofs.Added.{grows_length, back}
use Rattle.ae_clocked.proofs.Turns.{ones_are}
use Rattle.ae_gates.proofs.Fits.{held_fits}
use Rattle.ae_clocked.proofs.counter.changed.Goals as goal

pub doubled-requires-clause-net : goal.doubled-requires-clause-net
doubled-requires-clause-net c = net_added c.in_ok-one.ensures.adds c.requires.net

pub either-requires-clause-right : goal.either-requires-clause-right
either-requires-clause-right c = net_added c.in_ok-up.ensures.adds c.in_ok-one.ensures.net

pub lowest-requires-clause-net : goal.lowest-requires-clause-net
lowest-requires-clause-net c = net_added (adds_trans (adds_trans c.in_ok-one.ensures.adds c.in_ok-up.ensures.adds) c.in_ok-odd.ensures.adds) c.requires.net

pub choose-requires-clause-left : goal.choose-requires-clause-left
choose-requires-clause-left c = net_added c.in_ok-low.ensures.adds c.in_ok-odd.ensures.net

pub choose-requires-clause-right : goal.choose-requires-clause-right
choose-requires-clause-right c =
    net_added (adds_trans (adds_trans c.in_ok-up.ensures.adds c.in_ok-odd.ensures.adds) c.in_ok-low.ensures.adds) c.in_ok-one.ensures.net

pub returns-clause-adds : goal.returns-clause-adds
returns-clause-adds c =
    adds_trans (adds_trans (adds_trans (adds_trans c.in_ok-one.ensures.adds c.in_ok-up.ensures.adds) c.in_ok-odd.ensures.adds) c.in_ok-low.ensures.adds)
    c.in_ok-ones.ensures.adds

pub returns-clause-words : goal.returns-clause-words
returns-clause-words c = λ all k5 run is t l.
    let g1 = c.in_ok-up.ensures.adds.grows in
    let g2 = c.in_ok-odd.ensures.adds.grows in
    let g3 = c.in_ok-low.ensures.adds.grows in
    let g4 = c.in_ok-ones.ensures.adds.grows in
    let l1 = grows_length c.in_ok-one.ensures.adds.grows in
    let l2 = grows_length g1 in
    let l3 = grows_length g2 in
    let l4 = grows_length g3 in
    let k4 = back g4 k5 in
    let k3 = back g3 k4 in
    let k2 = back g2 k3 in
    let k1 = back g1 k2 in
    let net = k5.nets _ _ (net_added (adds_trans (adds_trans
    (adds_trans (adds_trans c.in_ok-one.ensures.adds c.in_ok-up.ensures.adds) c.in_ok-odd.ensures.adds) c.in_ok-low.ensures.adds)
    c.in_ok-ones.ensures.adds) c.requires.net) in
    ones_are _ _ _ _ _ _ (held_fits all run t _ _ is l net)
    (c.in_ok-one.ensures.words all k1 run is t l)
    (c.in_ok-up.ensures.words all (carries_later _ _ l1 k2) run is t l)
    (c.in_ok-odd.ensures.words all (carries_later _ _ (omega arith) k3) run is t l)
    (c.in_ok-low.ensures.words all (carries_later _ _ (omega arith) k4) run is t l)
    (c.in_ok-ones.ensures.words all (carries_later _ _ (omega arith) k5) run is t l)

pub returns-clause-registers : goal.returns-clause-registers
returns-clause-registers c =
    omega (
      arith,
      c.in_ok-one.ensures.registers,
      c.in_ok-up.ensures.registers,
      c.in_ok-odd.ensures.registers,
      c.in_ok-low.ensures.registers,
      c.in_ok-ones.ensures.registers,
    )

pub returns-clause-tests : goal.returns-clause-tests
returns-clause-tests c =
    omega (arith, c.in_ok-one.ensures.tests, c.in_ok-up.ensures.tests, c.in_ok-odd.ensures.tests, c.in_ok-low.ensures.tests, c.in_ok-ones.ensures.tests)

pub either-requires-clause-left : goal.either-requires-clause-left
either-requires-clause-left c = c.in_ok-up.ensures.net

pub choose-requires-clause-condition : goal.choose-requires-clause-condition
choose-requires-clause-condition c = c.in_ok-low.ensures.net

pub returns-clause-net : goal.returns-clause-net
returns-clause-net c = c.in_ok-ones.ensures.net

pub doubled-requires-clause-room : goal.doubled-requires-clause-room
doubled-requires-clause-room c = omega (arith, c.requires.room, c.in_ok-one.ensures.adds.cells, c.in_ok-one.ensures.adds.grows.limit)

pub either-requires-clause-room : goal.either-requires-clause-room
either-requires-clause-room c =
    omega (
      arith,
      c.requires.room,
      c.in_ok-one.ensures.adds.cells,
      c.in_ok-one.ensures.adds.grows.limit,
      c.in_ok-up.ensures.adds.cells,
      c.in_ok-up.ensures.adds.grows.limit,
    )

pub lowest-requires-clause-room : goal.lowest-requires-clause-room
lowest-requires-clause-room c =
    omega (
      arith,
      c.requires.room,
      c.in_ok-one.ensures.adds.cells,
      c.in_ok-one.ensures.adds.grows.limit,
      c.in_ok-up.ensures.adds.cells,
      c.in_ok-up.ensures.adds.grows.limit,
      c.in_ok-odd.ensures.adds.cells,
      c.in_ok-odd.ensures.adds.grows.limit,
    )

pub choose-requires-clause-room : goal.choose-requires-clause-room
choose-requires-clause-room c =
    omega (
      arith,
      c.requires.room,
      c.in_ok-one.ensures.adds.cells,
      c.in_ok-one.ensures.adds.grows.limit,
      c.in_ok-up.ensures.adds.cells,
      c.in_ok-up.ensures.adds.grows.limit,
      c.in_ok-odd.ensures.adds.cells,
      c.in_ok-odd.ensures.adds.grows.limit,
      c.in_ok-low.ensures.adds.cells,
      c.in_ok-low.ensures.adds.grows.limit,
    )
