-- The nets of a turn with an adder, one after another, and what they hold.
use Rattle.std.proofs.Common.{arith}
use Rattle.ae_netlist.proofs.Carried.{carries_later}
use Rattle.ae_gates.proofs.Adding.{adds_trans, net_added}
use Rattle.ae_gates.proofs.Added.{grows_length, back}
use Rattle.ae_clocked.proofs.Turns.{one_fits, turn_is}
use Rattle.ae_clocked.proofs.counter.turned_by_sum.Goals as goal

pub equal-requires-clause-left : goal.equal-requires-clause-left
equal-requires-clause-left c = net_added c.in_ok-end.ensures.adds c.requires.net

pub constant-requires-2-clause-fits : goal.constant-requires-2-clause-fits
constant-requires-2-clause-fits c = one_fits _ c.limits.ensures.0

pub sum-requires-clause-left : goal.sum-requires-clause-left
sum-requires-clause-left c = net_added (adds_trans (adds_trans c.in_ok-end.ensures.adds c.in_ok-at_end.ensures.adds) c.in_ok-one.ensures.adds) c.requires.net

pub choose-requires-clause-condition : goal.choose-requires-clause-condition
choose-requires-clause-condition c =
    net_added (adds_trans (adds_trans c.in_ok-one.ensures.adds c.in_ok-up.ensures.adds) c.in_ok-zero.ensures.adds) c.in_ok-at_end.ensures.net

pub choose-requires-clause-right : goal.choose-requires-clause-right
choose-requires-clause-right c = net_added c.in_ok-zero.ensures.adds c.in_ok-up.ensures.net

pub returns-clause-adds : goal.returns-clause-adds
returns-clause-adds c =
    adds_trans (adds_trans (adds_trans (adds_trans (adds_trans c.in_ok-end.ensures.adds c.in_ok-at_end.ensures.adds) c.in_ok-one.ensures.adds)
    c.in_ok-up.ensures.adds) c.in_ok-zero.ensures.adds) c.in_ok-next.ensures.adds

pub returns-clause-words : goal.returns-clause-words
returns-clause-words c = λ all k6 run is t l.
    let g1 = c.in_ok-at_end.ensures.adds.grows in
    let g2 = c.in_ok-one.ensures.adds.grows in
    let g3 = c.in_ok-up.ensures.adds.grows in
    let g4 = c.in_ok-zero.ensures.adds.grows in
    let g5 = c.in_ok-next.ensures.adds.grows in
    let l1 = grows_length c.in_ok-end.ensures.adds.grows in
    let l2 = grows_length g1 in
    let l3 = grows_length g2 in
    let l4 = grows_length g3 in
    let l5 = grows_length g4 in
    let k5 = back g5 k6 in
    let k4 = back g4 k5 in
    let k3 = back g3 k4 in
    let k2 = back g2 k3 in
    let k1 = back g1 k2 in
    turn_is c.args.width _ c.args.last _ _ _ _ _ _
    (c.in_ok-end.ensures.words all k1 run is t l)
    (c.in_ok-at_end.ensures.words all (carries_later _ _ l1 k2) run is t l)
    (c.in_ok-one.ensures.words all (carries_later _ _ (omega arith) k3) run is t l)
    (c.in_ok-up.ensures.words all (carries_later _ _ (omega arith) k4) run is t l)
    (c.in_ok-zero.ensures.words all (carries_later _ _ (omega arith) k5) run is t l)
    (c.in_ok-next.ensures.words all (carries_later _ _ (omega arith) k6) run is t l)

pub returns-clause-registers : goal.returns-clause-registers
returns-clause-registers c =
    omega (
      arith,
      c.in_ok-end.ensures.registers,
      c.in_ok-at_end.ensures.registers,
      c.in_ok-one.ensures.registers,
      c.in_ok-up.ensures.registers,
      c.in_ok-zero.ensures.registers,
      c.in_ok-next.ensures.registers,
    )

pub returns-clause-tests : goal.returns-clause-tests
returns-clause-tests c =
    omega (
      arith,
      c.in_ok-end.ensures.tests,
      c.in_ok-at_end.ensures.tests,
      c.in_ok-one.ensures.tests,
      c.in_ok-up.ensures.tests,
      c.in_ok-zero.ensures.tests,
      c.in_ok-next.ensures.tests,
    )

pub equal-requires-clause-right : goal.equal-requires-clause-right
equal-requires-clause-right c = c.in_ok-end.ensures.net

pub sum-requires-clause-right : goal.sum-requires-clause-right
sum-requires-clause-right c = c.in_ok-one.ensures.net

pub choose-requires-clause-left : goal.choose-requires-clause-left
choose-requires-clause-left c = c.in_ok-zero.ensures.net

pub returns-clause-net : goal.returns-clause-net
returns-clause-net c = c.in_ok-next.ensures.net

pub equal-requires-clause-room : goal.equal-requires-clause-room
equal-requires-clause-room c = omega (arith, c.requires.room, c.in_ok-end.ensures.adds.cells, c.in_ok-end.ensures.adds.grows.limit)

pub constant-requires-2-clause-room : goal.constant-requires-2-clause-room
constant-requires-2-clause-room c =
    omega (
      arith,
      c.requires.room,
      c.in_ok-end.ensures.adds.cells,
      c.in_ok-end.ensures.adds.grows.limit,
      c.in_ok-at_end.ensures.adds.cells,
      c.in_ok-at_end.ensures.adds.grows.limit,
    )

pub sum-requires-clause-room : goal.sum-requires-clause-room
sum-requires-clause-room c =
    omega (
      arith,
      c.requires.room,
      c.in_ok-end.ensures.adds.cells,
      c.in_ok-end.ensures.adds.grows.limit,
      c.in_ok-at_end.ensures.adds.cells,
      c.in_ok-at_end.ensures.adds.grows.limit,
      c.in_ok-one.ensures.adds.cells,
      c.in_ok-one.ensures.adds.grows.limit,
    )

pub constant-requires-3-clause-room : goal.constant-requires-3-clause-room
constant-requires-3-clause-room c =
    omega (
      arith,
      c.requires.room,
      c.in_ok-end.ensures.adds.cells,
      c.in_ok-end.ensures.adds.grows.limit,
      c.in_ok-at_end.ensures.adds.cells,
      c.in_ok-at_end.ensures.adds.grows.limit,
      c.in_ok-one.ensures.adds.cells,
      c.in_ok-one.ensures.adds.grows.limit,
      c.in_ok-up.ensures.adds.cells,
      c.in_ok-up.ensures.adds.grows.limit,
    )

pub choose-requires-clause-room : goal.choose-requires-clause-room
choose-requires-clause-room c =
    omega (
      arith,
      c.requires.room,
      c.in_ok-end.ensures.adds.cells,
      c.in_ok-end.ensures.adds.grows.limit,
      c.in_ok-at_end.ensures.adds.cells,
      c.in_ok-at_end.ensures.adds.grows.limit,
      c.in_ok-one.ensures.adds.cells,
      c.in_ok-one.ensures.adds.grows.limit,
      c.in_ok-up.ensures.adds.cells,
      c.in_ok-up.ensures.adds.grows.limit,
      c.in_ok-zero.ensures.adds.cells,
      c.in_ok-zero.ensures.adds.grows.limit,
    )
