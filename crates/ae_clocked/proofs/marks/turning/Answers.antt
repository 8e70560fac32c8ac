-- The nets of a register that turns, one after another, and what they hold.
use Rattle.std.proofs.Common.{◌<◌, length, arith}
use Rattle.ae_netlist.specs.Runs.{Carries}
use Rattle.ae_netlist.proofs.Carried.{carries_later, carries_trans}
use Rattle.ae_gates.proofs.Adding.{adds_trans, grows_trans, net_added}
use Rattle.ae_clocked.proofs.Connecting.{adds_connect, connect_carries, net_own, own_register, register_later}
use Rattle.ae_gates.proofs.Added.{grows_length, back, net_within}
use Rattle.ae_netlist.specs.Runs.{word_at}
use Rattle.ae_gates.proofs.Fits.{held_fits}
use Rattle.ae_clocked.proofs.Marked.{bit_is, turn_xor}
use Rattle.ae_clocked.proofs.marks.turning.Goals as goal

pub choose-requires-clause-condition : goal.choose-requires-clause-condition
choose-requires-clause-condition c =
    net_added (adds_trans (adds_trans (adds_trans c.in_ok-y.ensures.adds c.in_ok-once.ensures.adds) c.in_ok-after.ensures.adds) c.in_ok-begin.ensures.adds)
    c.requires.rst

pub choose-requires-clause-right : goal.choose-requires-clause-right
choose-requires-clause-right c = net_added c.in_ok-begin.ensures.adds c.in_ok-after.ensures.net

pub close-requires-clause-register : goal.close-requires-clause-register
close-requires-clause-register c =
    let later = grows_trans c.in_ok-once.ensures.adds.grows
    (grows_trans c.in_ok-after.ensures.adds.grows (grows_trans c.in_ok-begin.ensures.adds.grows c.in_ok-next.ensures.adds.grows)) in
    own_register (register_later later c.in_ok-y.ensures.register)

pub close-requires-clause-next : goal.close-requires-clause-next
close-requires-clause-next c =
    let later = grows_trans c.in_ok-once.ensures.adds.grows
    (grows_trans c.in_ok-after.ensures.adds.grows (grows_trans c.in_ok-begin.ensures.adds.grows c.in_ok-next.ensures.adds.grows)) in
    net_own (register_later later c.in_ok-y.ensures.register) c.in_ok-next.ensures.net

pub returns-clause-adds : goal.returns-clause-adds
returns-clause-adds c =
    adds_connect (adds_trans (adds_trans (adds_trans (adds_trans c.in_ok-y.ensures.adds c.in_ok-once.ensures.adds) c.in_ok-after.ensures.adds)
    c.in_ok-begin.ensures.adds) c.in_ok-next.ensures.adds)
    (omega (arith, c.in_ok-y.ensures.fresh)) c.close.ensures

pub returns-clause-net : goal.returns-clause-net
returns-clause-net c =
    let later = adds_trans (adds_trans (adds_trans c.in_ok-once.ensures.adds c.in_ok-after.ensures.adds) c.in_ok-begin.ensures.adds)
    c.in_ok-next.ensures.adds in
    c.close.ensures.nets _ _ (net_added later c.in_ok-y.ensures.net)

pub returns-clause-words : goal.returns-clause-words
returns-clause-words c = λ all k run is t l.
    let fresh = c.in_ok-y.ensures.fresh in
    let g1 = c.in_ok-after.ensures.adds.grows in
    let g2 = c.in_ok-begin.ensures.adds.grows in
    let g3 = c.in_ok-next.ensures.adds.grows in
    let l1 = grows_length c.in_ok-y.ensures.adds.grows in
    let l2 = grows_length c.in_ok-once.ensures.adds.grows in
    let l3 = grows_length g1 in
    let l4 = grows_length g2 in
    let y_new : c.in_ok-y.y.0 < length c.register.new.nl.cells = net_within c.in_ok-y.ensures.net in
    let closed : Carries (length c.register.new.nl.cells) c.choose.new.nl.cells all =
    carries_trans (connect_carries _ y_new c.close.ensures) (carries_later _ _ l1 k) in
    let k3 = back g3 closed in
    let k2 = back g2 k3 in
    let k1 = back g1 k2 in
    let l0 : t < length run = omega arith in
    let begin = rw (bit_is _ _ c.from.ensures) at (c.in_ok-begin.ensures.words all (carries_later _ _ (omega arith) k3) run is t l0) in
    let all_added = adds_trans (adds_trans (adds_trans (adds_trans c.in_ok-y.ensures.adds c.in_ok-once.ensures.adds) c.in_ok-after.ensures.adds)
    c.in_ok-begin.ensures.adds) c.in_ok-next.ensures.adds in
    let since = adds_trans (adds_trans (adds_trans c.in_ok-once.ensures.adds c.in_ok-after.ensures.adds) c.in_ok-begin.ensures.adds)
    c.in_ok-next.ensures.adds in
    let y_bit : word_at run t c.in_ok-y.y.0 < 2 = held_fits all run t _ 1 is l0
    (k.nets _ _ (c.close.ensures.nets _ _ (net_added since c.in_ok-y.ensures.net))) in
    let a_bit : word_at run t c.args.a.0 < 2 = held_fits all run t _ 1 is l0 (k.nets _ _ (c.close.ensures.nets _ _ (net_added all_added c.requires.left))) in
    let b_bit : word_at run t c.args.b.0 < 2 = held_fits all run t _ 1 is l0 (k.nets _ _ (c.close.ensures.nets _ _ (net_added all_added c.requires.right))) in
    turn_xor _ _ _ _ _ _ _ _ _ _ y_bit a_bit b_bit
    (c.in_ok-once.ensures.words all k1 run is t l0)
    (c.in_ok-after.ensures.words all (carries_later _ _ l2 k2) run is t l0)
    begin
    (c.in_ok-next.ensures.words all (carries_later _ _ (omega arith) closed) run is t l0)
    (c.close.ensures.words all (carries_later _ _ (omega arith) k) run is t l)

pub differ-requires-clause-left : goal.differ-requires-clause-left
differ-requires-clause-left c = c.in_ok-y.ensures.net

pub differ-requires-clause-right : goal.differ-requires-clause-right
differ-requires-clause-right c = net_added c.in_ok-y.ensures.adds c.requires.left

pub differ-requires-2-clause-left : goal.differ-requires-2-clause-left
differ-requires-2-clause-left c = c.in_ok-once.ensures.net

pub differ-requires-2-clause-right : goal.differ-requires-2-clause-right
differ-requires-2-clause-right c = net_added (adds_trans c.in_ok-y.ensures.adds c.in_ok-once.ensures.adds) c.requires.right

pub choose-requires-clause-left : goal.choose-requires-clause-left
choose-requires-clause-left c = c.in_ok-begin.ensures.net

pub returns-clause-registers : goal.returns-clause-registers
returns-clause-registers c =
    omega (
      arith,
      c.in_ok-y.ensures.registers,
      c.in_ok-once.ensures.registers,
      c.in_ok-after.ensures.registers,
      c.in_ok-begin.ensures.registers,
      c.in_ok-next.ensures.registers,
      c.close.ensures.registers,
    )

pub returns-clause-tests : goal.returns-clause-tests
returns-clause-tests c =
    omega (
      arith,
      c.in_ok-y.ensures.tests,
      c.in_ok-once.ensures.tests,
      c.in_ok-after.ensures.tests,
      c.in_ok-begin.ensures.tests,
      c.in_ok-next.ensures.tests,
      c.close.ensures.tests,
    )

pub differ-requires-clause-room : goal.differ-requires-clause-room
differ-requires-clause-room c = omega (arith, c.requires.room, c.in_ok-y.ensures.adds.cells, c.in_ok-y.ensures.adds.grows.limit)

pub differ-requires-2-clause-room : goal.differ-requires-2-clause-room
differ-requires-2-clause-room c =
    omega (
      arith,
      c.requires.room,
      c.in_ok-y.ensures.adds.cells,
      c.in_ok-y.ensures.adds.grows.limit,
      c.in_ok-once.ensures.adds.cells,
      c.in_ok-once.ensures.adds.grows.limit,
    )

pub constant-requires-clause-room : goal.constant-requires-clause-room
constant-requires-clause-room c =
    omega (
      arith,
      c.requires.room,
      c.in_ok-y.ensures.adds.cells,
      c.in_ok-y.ensures.adds.grows.limit,
      c.in_ok-once.ensures.adds.cells,
      c.in_ok-once.ensures.adds.grows.limit,
      c.in_ok-after.ensures.adds.cells,
      c.in_ok-after.ensures.adds.grows.limit,
    )

pub choose-requires-clause-room : goal.choose-requires-clause-room
choose-requires-clause-room c =
    omega (
      arith,
      c.requires.room,
      c.in_ok-y.ensures.adds.cells,
      c.in_ok-y.ensures.adds.grows.limit,
      c.in_ok-once.ensures.adds.cells,
      c.in_ok-once.ensures.adds.grows.limit,
      c.in_ok-after.ensures.adds.cells,
      c.in_ok-after.ensures.adds.grows.limit,
      c.in_ok-begin.ensures.adds.cells,
      c.in_ok-begin.ensures.adds.grows.limit,
    )
