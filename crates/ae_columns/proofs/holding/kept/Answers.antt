-- The nets of a register that is written in the clocks of one phase, one after another, and what they hold.
use Rattle.std.proofs.Common.{◌<◌, ◌∙◌, length, arith}
use Rattle.ae_netlist.specs.Runs.{Carries}
use Rattle.ae_netlist.proofs.Carried.{carries_later, carries_trans}
use Rattle.ae_gates.proofs.Adding.{adds_trans, net_added}
use Rattle.ae_clocked.proofs.Connecting.{adds_connect, connect_carries, net_own, own_register, register_later}
use Rattle.ae_gates.proofs.Added.{grows_length, back, net_within}
use Rattle.ae_columns.proofs.HeldLaw.{kept_is}
use Rattle.ae_columns.proofs.holding.kept.Goals as goal

pub equal-requires-clause-left : goal.equal-requires-clause-left
equal-requires-clause-left c = rw c.width_at-bits.ensures (net_added c.in_ok-begin.ensures.adds c.requires.counter)

pub choose-requires-clause-condition : goal.choose-requires-clause-condition
choose-requires-clause-condition c = net_added c.in_ok-y.ensures.adds c.in_ok-begins.ensures.net

pub choose-requires-clause-left : goal.choose-requires-clause-left
choose-requires-clause-left c = net_added (adds_trans (adds_trans c.in_ok-begin.ensures.adds c.in_ok-begins.ensures.adds) c.in_ok-y.ensures.adds) c.requires.net

pub close-requires-clause-register : goal.close-requires-clause-register
close-requires-clause-register c = own_register (register_later c.in_ok-next.ensures.adds.grows c.in_ok-y.ensures.register)

pub close-requires-clause-next : goal.close-requires-clause-next
close-requires-clause-next c = net_own (register_later c.in_ok-next.ensures.adds.grows c.in_ok-y.ensures.register) c.in_ok-next.ensures.net

pub returns-clause-adds : goal.returns-clause-adds
returns-clause-adds c =
    let l1 = grows_length c.in_ok-begin.ensures.adds.grows in
    let l2 = grows_length c.in_ok-begins.ensures.adds.grows in
    adds_connect (adds_trans (adds_trans (adds_trans c.in_ok-begin.ensures.adds c.in_ok-begins.ensures.adds) c.in_ok-y.ensures.adds) c.in_ok-next.ensures.adds)
    (omega (arith, c.in_ok-y.ensures.fresh, l1, l2)) c.close.ensures

pub returns-clause-net : goal.returns-clause-net
returns-clause-net c = c.close.ensures.nets _ _ (net_added c.in_ok-next.ensures.adds c.in_ok-y.ensures.net)

pub returns-clause-words : goal.returns-clause-words
returns-clause-words c = λ all k run is t l.
    let fresh = c.in_ok-y.ensures.fresh in
    let l1 = grows_length c.in_ok-begin.ensures.adds.grows in
    let l2 = grows_length c.in_ok-begins.ensures.adds.grows in
    let l3 = grows_length c.in_ok-y.ensures.adds.grows in
    let y_new : c.in_ok-y.y.0 < length c.register.new.nl.cells = net_within c.in_ok-y.ensures.net in
    let rest = adds_connect (adds_trans c.in_ok-y.ensures.adds c.in_ok-next.ensures.adds) (omega (arith, fresh)) c.close.ensures in
    let k2 = back rest.grows k in
    let k1 = back c.in_ok-begins.ensures.adds.grows k2 in
    let closed : Carries (length c.register.new.nl.cells) c.choose.new.nl.cells all =
    carries_trans (connect_carries _ y_new c.close.ensures) (carries_later _ _ (omega (arith, l1, l2, l3)) k) in
    let l0 : t < length run = omega arith in
    kept_is _ _ _ _ _ _ _ _
    (c.in_ok-begin.ensures.words all k1 run is t l0 ∙ c.from.ensures)
    (c.in_ok-begins.ensures.words all (carries_later _ _ l1 k2) run is t l0)
    (c.in_ok-next.ensures.words all closed run is t l0)
    (c.close.ensures.words all (carries_later _ _ (omega (arith, fresh, l1, l2)) k) run is t l)

pub constant-requires-clause-fits : goal.constant-requires-clause-fits
constant-requires-clause-fits c = rw (c.from.ensures, c.width_at-bits.ensures) c.requires.fits

pub returns-clause-counted : goal.returns-clause-counted
returns-clause-counted c = record {
  registers = omega (
    arith,
    c.in_ok-begin.ensures.registers,
    c.in_ok-begins.ensures.registers,
    c.in_ok-y.ensures.registers,
    c.in_ok-next.ensures.registers,
    c.close.ensures.registers,
  );
  tests = omega (arith, c.in_ok-begin.ensures.tests, c.in_ok-begins.ensures.tests, c.in_ok-y.ensures.tests, c.in_ok-next.ensures.tests, c.close.ensures.tests);
}

pub equal-requires-clause-room : goal.equal-requires-clause-room
equal-requires-clause-room c = omega (arith, c.requires.room, c.in_ok-begin.ensures.adds.cells, c.in_ok-begin.ensures.adds.grows.limit)

pub register-requires : goal.register-requires
register-requires c =
    omega (
      arith,
      c.requires.room,
      c.in_ok-begin.ensures.adds.cells,
      c.in_ok-begin.ensures.adds.grows.limit,
      c.in_ok-begins.ensures.adds.cells,
      c.in_ok-begins.ensures.adds.grows.limit,
    )

pub choose-requires-clause-room : goal.choose-requires-clause-room
choose-requires-clause-room c =
    omega (
      arith,
      c.requires.room,
      c.in_ok-begin.ensures.adds.cells,
      c.in_ok-begin.ensures.adds.grows.limit,
      c.in_ok-begins.ensures.adds.cells,
      c.in_ok-begins.ensures.adds.grows.limit,
      c.in_ok-y.ensures.adds.cells,
      c.in_ok-y.ensures.adds.grows.limit,
    )
