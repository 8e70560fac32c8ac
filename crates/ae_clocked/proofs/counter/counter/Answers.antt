-- The nets of a counter, one after another, and what they hold.
use Rattle.std.proofs.Common.{◌<◌, length, arith}
use Rattle.ae_netlist.specs.Runs.{Carries}
use Rattle.ae_netlist.proofs.Carried.{carries_later, carries_trans}
use Rattle.ae_gates.proofs.Adding.{adds_trans, grows_trans, net_added}
use Rattle.ae_clocked.proofs.Connecting.{adds_connect, connect_carries, net_own, own_register, register_later}
use Rattle.ae_gates.proofs.Added.{grows_length, back, net_within}
use Rattle.ae_clocked.proofs.Turns.{count_is}
use Rattle.ae_clocked.proofs.counter.counter.Goals as goal

pub choose-requires-clause-condition : goal.choose-requires-clause-condition
choose-requires-clause-condition c =
    net_added (adds_trans (adds_trans c.in_ok-r.ensures.adds c.in_ok-after.ensures.adds) c.in_ok-begin.ensures.adds) c.requires.rst

pub choose-requires-clause-right : goal.choose-requires-clause-right
choose-requires-clause-right c = net_added c.in_ok-begin.ensures.adds c.in_ok-after.ensures.net

pub close-requires-clause-register : goal.close-requires-clause-register
close-requires-clause-register c =
    let later = grows_trans c.in_ok-after.ensures.adds.grows (grows_trans c.in_ok-begin.ensures.adds.grows c.in_ok-next.ensures.adds.grows) in
    own_register (register_later later c.in_ok-r.ensures.register)

pub close-requires-clause-next : goal.close-requires-clause-next
close-requires-clause-next c =
    let later = grows_trans c.in_ok-after.ensures.adds.grows (grows_trans c.in_ok-begin.ensures.adds.grows c.in_ok-next.ensures.adds.grows) in
    net_own (register_later later c.in_ok-r.ensures.register) c.in_ok-next.ensures.net

pub returns-clause-adds : goal.returns-clause-adds
returns-clause-adds c =
    adds_connect (adds_trans (adds_trans (adds_trans c.in_ok-r.ensures.adds c.in_ok-after.ensures.adds) c.in_ok-begin.ensures.adds) c.in_ok-next.ensures.adds)
    (omega (arith, c.in_ok-r.ensures.fresh)) c.close.ensures

pub returns-clause-net : goal.returns-clause-net
returns-clause-net c =
    let later = adds_trans (adds_trans c.in_ok-after.ensures.adds c.in_ok-begin.ensures.adds) c.in_ok-next.ensures.adds in
    c.close.ensures.nets _ _ (net_added later c.in_ok-r.ensures.net)

pub returns-clause-words : goal.returns-clause-words
returns-clause-words c = λ all k run is t l.
    let fresh = c.in_ok-r.ensures.fresh in
    let g2 = c.in_ok-begin.ensures.adds.grows in
    let g3 = c.in_ok-next.ensures.adds.grows in
    let l1 = grows_length c.in_ok-r.ensures.adds.grows in
    let l2 = grows_length c.in_ok-after.ensures.adds.grows in
    let l3 = grows_length g2 in
    let r_new : c.in_ok-r.r.0 < length c.register.new.nl.cells = net_within c.in_ok-r.ensures.net in
    let closed : Carries (length c.register.new.nl.cells) c.choose.new.nl.cells all =
    carries_trans (connect_carries _ r_new c.close.ensures) (carries_later _ _ l1 k) in
    let k3 = back g3 closed in
    let k2 = back g2 k3 in
    let l0 : t < length run = omega arith in
    count_is _ _ _ _ _ _ _ _ _
    (c.in_ok-after.ensures.words all k2 run is t l0)
    (c.in_ok-begin.ensures.words all (carries_later _ _ l2 k3) run is t l0)
    (c.in_ok-next.ensures.words all (carries_later _ _ (omega arith) closed) run is t l0)
    (c.close.ensures.words all (carries_later _ _ (omega arith) k) run is t l)

pub returns-clause-registers : goal.returns-clause-registers
returns-clause-registers c =
    omega (
      arith,
      c.in_ok-r.ensures.registers,
      c.in_ok-after.ensures.registers,
      c.in_ok-begin.ensures.registers,
      c.in_ok-next.ensures.registers,
      c.close.ensures.registers,
    )

pub returns-clause-tests : goal.returns-clause-tests
returns-clause-tests c =
    omega (arith, c.in_ok-r.ensures.tests, c.in_ok-after.ensures.tests, c.in_ok-begin.ensures.tests, c.in_ok-next.ensures.tests, c.close.ensures.tests)

pub turned-requires-clause-room : goal.turned-requires-clause-room
turned-requires-clause-room c = omega (arith, c.requires.room, c.in_ok-r.ensures.adds.cells, c.in_ok-r.ensures.adds.grows.limit)

pub constant-requires-clause-room : goal.constant-requires-clause-room
constant-requires-clause-room c =
    omega (
      arith,
      c.requires.room,
      c.in_ok-r.ensures.adds.cells,
      c.in_ok-r.ensures.adds.grows.limit,
      c.in_ok-after.ensures.adds.cells,
      c.in_ok-after.ensures.adds.grows.limit,
    )

pub choose-requires-clause-room : goal.choose-requires-clause-room
choose-requires-clause-room c =
    omega (
      arith,
      c.requires.room,
      c.in_ok-r.ensures.adds.cells,
      c.in_ok-r.ensures.adds.grows.limit,
      c.in_ok-after.ensures.adds.cells,
      c.in_ok-after.ensures.adds.grows.limit,
      c.in_ok-begin.ensures.adds.cells,
      c.in_ok-begin.ensures.adds.grows.limit,
    )
