-- Three cells, one behind the other.
use Rattle.std.proofs.Common.{arith}
use Rattle.ae_netlist.proofs.Carried.{carries_later}
use Rattle.ae_gates.proofs.Adding.{adds_trans}
use Rattle.ae_gates.proofs.Added.{back, grows_length}
use Rattle.ae_ops.proofs.SignWords.{complement_is}
use Rattle.ae_ops.proofs.compute.complemented.Goals as goal

pub on_one-requires-3-clause-net : goal.on_one-requires-3-clause-net
on_one-requires-3-clause-net c = rw c.result_width.ensures c.in_ok-made.ensures.net

pub returns-clause-adds : goal.returns-clause-adds
returns-clause-adds c = adds_trans (adds_trans c.in_ok-turned.ensures.adds c.in_ok-made.ensures.adds) c.in_ok-back.ensures.adds

pub returns-clause-net : goal.returns-clause-net
returns-clause-net c = rw (← c.result_width.ensures) c.in_ok-back.ensures.net

pub returns-clause-words : goal.returns-clause-words
returns-clause-words c = λ all k3 run is t l.
    let g2 = c.in_ok-made.ensures.adds.grows in
    let g3 = c.in_ok-back.ensures.adds.grows in
    let l1 = grows_length c.in_ok-turned.ensures.adds.grows in
    let l2 = grows_length g2 in
    let k2 = back g3 k3 in
    let k1 = back g2 k2 in
    complement_is c.args.op c.args.width _ _ _ _ _ c.result_width.ensures
    (c.in_ok-turned.ensures.words all k1 run is t l)
    (c.in_ok-made.ensures.words all (carries_later _ _ l1 k2) run is t l)
    (c.in_ok-back.ensures.words all (carries_later _ _ (omega arith) k3) run is t l)

pub on_one-requires-2-clause-room : goal.on_one-requires-2-clause-room
on_one-requires-2-clause-room c = omega (arith, c.requires.room, c.in_ok-turned.ensures.adds.cells, c.in_ok-turned.ensures.adds.grows.limit)

pub on_one-requires-3-clause-room : goal.on_one-requires-3-clause-room
on_one-requires-3-clause-room c =
    omega (
      arith,
      c.requires.room,
      c.in_ok-turned.ensures.adds.cells,
      c.in_ok-turned.ensures.adds.grows.limit,
      c.in_ok-made.ensures.adds.cells,
      c.in_ok-made.ensures.adds.grows.limit,
    )
