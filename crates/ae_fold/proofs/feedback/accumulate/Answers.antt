-- The cells of a loop, one after another, and what they hold.
use Rattle.std.proofs.Common.{◌≡◌, ◌+◌, ◌-◌, ◌<◌, length, arith}
use Rattle.ae_netlist.specs.Runs.{Carries}
use Rattle.ae_netlist.proofs.Carried.{carries_extends, carries_later, carries_trans}
use Rattle.ae_netlist.proofs.Growing.{extends_trans, net_later}
use Rattle.ae_gates.proofs.Adding.{grows_trans}
use Rattle.ae_gates.proofs.Added.{back, grows_length, net_within}
use Rattle.ae_clocked.proofs.Connecting.{connect_carries, net_own, own_register, register_later}
use Rattle.ae_fold.proofs.Feeding.{continues}
use Rattle.ae_fold.proofs.Storing.{may_place_grows, stores_connect, stores_is, stores_made, stores_of, stores_trans}
use Rattle.ae_fold.proofs.feedback.accumulate.Goals as goal

pub waiting-requires-clause-net : goal.waiting-requires-clause-net
waiting-requires-clause-net c = c.in_ok-r.ensures.net

pub waiting-requires-clause-place : goal.waiting-requires-clause-place
waiting-requires-clause-place c = may_place_grows _ _ _ c.args.ring c.in_ok-r.ensures.adds.grows.extends c.requires.place

pub combined-requires-clause-left : goal.combined-requires-clause-left
combined-requires-clause-left c = c.in_ok-back.ensures.net

pub combined-requires-clause-right : goal.combined-requires-clause-right
combined-requires-clause-right c =
    net_later (grows_trans c.in_ok-r.ensures.adds.grows c.in_ok-back.ensures.adds.grows).extends c.requires.net

pub choose-requires-clause-condition : goal.choose-requires-clause-condition
choose-requires-clause-condition c =
    net_later (grows_trans (grows_trans c.in_ok-r.ensures.adds.grows c.in_ok-back.ensures.adds.grows) c.in_ok-both.ensures.adds.grows).extends c.requires.first

pub choose-requires-clause-left : goal.choose-requires-clause-left
choose-requires-clause-left c =
    net_later (grows_trans (grows_trans c.in_ok-r.ensures.adds.grows c.in_ok-back.ensures.adds.grows) c.in_ok-both.ensures.adds.grows).extends c.requires.net

pub choose-requires-clause-right : goal.choose-requires-clause-right
choose-requires-clause-right c = c.in_ok-both.ensures.net

pub close-requires-clause-register : goal.close-requires-clause-register
close-requires-clause-register c =
    let later = grows_trans c.in_ok-back.ensures.adds.grows (grows_trans c.in_ok-both.ensures.adds.grows c.in_ok-next.ensures.adds.grows) in
    own_register (register_later later c.in_ok-r.ensures.register)

pub close-requires-clause-next : goal.close-requires-clause-next
close-requires-clause-next c =
    let later = grows_trans c.in_ok-back.ensures.adds.grows (grows_trans c.in_ok-both.ensures.adds.grows c.in_ok-next.ensures.adds.grows) in
    net_own (register_later later c.in_ok-r.ensures.register) c.in_ok-next.ensures.net

pub returns-clause-adds : goal.returns-clause-adds
returns-clause-adds c =
    let delay : c.args.inner - 1 + 1 ≡ c.args.inner = omega (arith, c.requires.lasting) in
    stores_is (omega arith) (omega arith) (omega arith)
    (stores_connect (stores_trans (stores_trans (stores_trans (stores_of c.in_ok-r.ensures.adds) (stores_made (rw delay at c.in_ok-back.ensures.adds)))
    (stores_of c.in_ok-both.ensures.adds)) (stores_of c.in_ok-next.ensures.adds))
    (omega (arith, c.in_ok-r.ensures.fresh)) c.close.ensures)

pub returns-clause-net : goal.returns-clause-net
returns-clause-net c =
    let later = grows_trans (grows_trans c.in_ok-back.ensures.adds.grows c.in_ok-both.ensures.adds.grows) c.in_ok-next.ensures.adds.grows in
    c.close.ensures.nets _ _ (net_later later.extends c.in_ok-r.ensures.net)

pub returns-clause-back : goal.returns-clause-back
returns-clause-back c =
    c.close.ensures.nets _ _ (net_later (grows_trans c.in_ok-both.ensures.adds.grows c.in_ok-next.ensures.adds.grows).extends c.in_ok-back.ensures.net)

-- the cells behind the register stay when it is connected, and those before it too
pub returns-clause-words : goal.returns-clause-words
returns-clause-words c = λ rst turns all e run is start reset.
    let k = carries_extends 0 e in
    let fresh = c.in_ok-r.ensures.fresh in
    let r_new : c.in_ok-r.r.0 < length c.register.new.nl.cells = net_within c.in_ok-r.ensures.net in
    let closed : Carries (length c.register.new.nl.cells) c.choose.new.nl.cells all =
    carries_trans (connect_carries _ r_new c.close.ensures) (carries_later _ _ (omega arith) k) in
    let l2 = grows_length c.in_ok-back.ensures.adds.grows in
    let l3 = grows_length c.in_ok-both.ensures.adds.grows in
    let k3 = back c.in_ok-next.ensures.adds.grows closed in
    let k2 = back c.in_ok-both.ensures.adds.grows k3 in
    let grown = stores_connect (stores_trans (stores_trans (stores_trans (stores_of c.in_ok-r.ensures.adds) (stores_made c.in_ok-back.ensures.adds))
    (stores_of c.in_ok-both.ensures.adds)) (stores_of c.in_ok-next.ensures.adds))
    (omega (arith, c.in_ok-r.ensures.fresh)) c.close.ensures in
    let turning = turns all (extends_trans grown.grows.extends e) run is start reset in
    continues run c.args.fold.op c.args.fold.width _ _ start c.in_ok-r.r c.in_ok-back.back c.args.x c.args.first c.in_ok-both.both c.in_ok-next.next
    (c.in_ok-back.ensures.words all k2 run is start turning)
    (c.in_ok-both.ensures.words all (carries_later _ _ l2 k3) run is)
    (c.in_ok-next.ensures.words all (carries_later _ _ (omega arith) closed) run is)
    (c.close.ensures.words all (carries_later _ _ (omega arith) k) run is)

pub returns-clause-late : goal.returns-clause-late
returns-clause-late c = λ rst turns all e run is start reset.
    let k = carries_extends 0 e in
    let r_new : c.in_ok-r.r.0 < length c.register.new.nl.cells = net_within c.in_ok-r.ensures.net in
    let closed : Carries (length c.register.new.nl.cells) c.choose.new.nl.cells all =
    carries_trans (connect_carries _ r_new c.close.ensures) (carries_later _ _ (omega arith) k) in
    let grown = stores_connect (stores_trans (stores_trans (stores_trans (stores_of c.in_ok-r.ensures.adds) (stores_made c.in_ok-back.ensures.adds))
    (stores_of c.in_ok-both.ensures.adds)) (stores_of c.in_ok-next.ensures.adds))
    (omega (arith, c.in_ok-r.ensures.fresh)) c.close.ensures in
    let turning = turns all (extends_trans grown.grows.extends e) run is start reset in
    c.in_ok-back.ensures.words all (back c.in_ok-both.ensures.adds.grows (back c.in_ok-next.ensures.adds.grows closed)) run is start turning

pub waiting-requires-clause-room : goal.waiting-requires-clause-room
waiting-requires-clause-room c = omega (arith, c.requires.room, c.in_ok-r.ensures.adds.cells, c.in_ok-r.ensures.adds.grows.limit)

pub combined-requires-clause-room : goal.combined-requires-clause-room
combined-requires-clause-room c =
    omega (
      arith,
      c.requires.room,
      c.in_ok-r.ensures.adds.cells,
      c.in_ok-r.ensures.adds.grows.limit,
      c.in_ok-back.ensures.adds.cells,
      c.in_ok-back.ensures.adds.grows.limit,
    )

pub choose-requires-clause-room : goal.choose-requires-clause-room
choose-requires-clause-room c =
    omega (
      arith,
      c.requires.room,
      c.in_ok-r.ensures.adds.cells,
      c.in_ok-r.ensures.adds.grows.limit,
      c.in_ok-back.ensures.adds.cells,
      c.in_ok-back.ensures.adds.grows.limit,
      c.in_ok-both.ensures.adds.cells,
      c.in_ok-both.ensures.adds.grows.limit,
    )
