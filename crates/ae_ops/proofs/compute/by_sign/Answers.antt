-- Both results, and a choice by the sign.
use Rattle.std.proofs.Common.{◌∙◌, arith}
use Rattle.ae_netlist.proofs.Carried.{carries_later}
use Rattle.ae_gates.proofs.Adding.{adds_trans, net_added}
use Rattle.ae_gates.proofs.Added.{back, grows_length}
use Rattle.ae_ops.proofs.SignWords.{chosen, half_fits}
use Rattle.ae_ops.proofs.compute.by_sign.Goals as goal

pub constant-requires-clause-fits : goal.constant-requires-clause-fits
constant-requires-clause-fits c = rw c.half.ensures (half_fits c.args.width c.limits.ensures.0)

pub less-requires-clause-left : goal.less-requires-clause-left
less-requires-clause-left c = net_added c.in_ok-middle.ensures.adds c.requires.net

pub on_one-requires-clause-net : goal.on_one-requires-clause-net
on_one-requires-clause-net c = net_added c.in_ok-positive.ensures.adds (net_added c.in_ok-middle.ensures.adds c.requires.net)

pub complemented-requires-clause-net : goal.complemented-requires-clause-net
complemented-requires-clause-net c =
    net_added c.in_ok-made.ensures.adds (net_added c.in_ok-positive.ensures.adds (net_added c.in_ok-middle.ensures.adds c.requires.net))

pub choose-requires-clause-condition : goal.choose-requires-clause-condition
choose-requires-clause-condition c = net_added c.in_ok-turned.ensures.adds (net_added c.in_ok-made.ensures.adds c.in_ok-positive.ensures.net)

pub choose-requires-clause-left : goal.choose-requires-clause-left
choose-requires-clause-left c = rw c.result_width.ensures (net_added c.in_ok-turned.ensures.adds c.in_ok-made.ensures.net)

pub choose-requires-clause-right : goal.choose-requires-clause-right
choose-requires-clause-right c = rw c.result_width.ensures c.in_ok-turned.ensures.net

pub returns-clause-adds : goal.returns-clause-adds
returns-clause-adds c =
    adds_trans (adds_trans (adds_trans (adds_trans c.in_ok-middle.ensures.adds c.in_ok-positive.ensures.adds) c.in_ok-made.ensures.adds)
    c.in_ok-turned.ensures.adds) c.in_ok-chosen.ensures.adds

pub returns-clause-net : goal.returns-clause-net
returns-clause-net c = rw (← c.result_width.ensures) c.in_ok-chosen.ensures.net

pub returns-clause-words : goal.returns-clause-words
returns-clause-words c = λ all k5 run is t l.
    let g2 = c.in_ok-positive.ensures.adds.grows in
    let g3 = c.in_ok-made.ensures.adds.grows in
    let g4 = c.in_ok-turned.ensures.adds.grows in
    let g5 = c.in_ok-chosen.ensures.adds.grows in
    let l1 = grows_length c.in_ok-middle.ensures.adds.grows in
    let l2 = grows_length g2 in
    let l3 = grows_length g3 in
    let l4 = grows_length g4 in
    let k4 = back g5 k5 in
    let k3 = back g4 k4 in
    let k2 = back g3 k3 in
    let k1 = back g2 k2 in
    chosen _ _ _ _ _ _ _ _ _
    (c.in_ok-middle.ensures.words all k1 run is t l ∙ c.half.ensures)
    (c.in_ok-positive.ensures.words all (carries_later _ _ l1 k2) run is t l)
    (c.in_ok-made.ensures.words all (carries_later _ _ (omega arith) k3) run is t l)
    (c.in_ok-turned.ensures.words all (carries_later _ _ (omega arith) k4) run is t l)
    (c.in_ok-chosen.ensures.words all (carries_later _ _ (omega arith) k5) run is t l)

pub less-requires-clause-room : goal.less-requires-clause-room
less-requires-clause-room c = omega (arith, c.requires.room, c.in_ok-middle.ensures.adds.cells, c.in_ok-middle.ensures.adds.grows.limit)

pub on_one-requires-clause-room : goal.on_one-requires-clause-room
on_one-requires-clause-room c =
    omega (
      arith,
      c.requires.room,
      c.in_ok-middle.ensures.adds.cells,
      c.in_ok-middle.ensures.adds.grows.limit,
      c.in_ok-positive.ensures.adds.cells,
      c.in_ok-positive.ensures.adds.grows.limit,
    )

pub complemented-requires-clause-room : goal.complemented-requires-clause-room
complemented-requires-clause-room c =
    omega (
      arith,
      c.requires.room,
      c.in_ok-middle.ensures.adds.cells,
      c.in_ok-middle.ensures.adds.grows.limit,
      c.in_ok-positive.ensures.adds.cells,
      c.in_ok-positive.ensures.adds.grows.limit,
      c.in_ok-made.ensures.adds.cells,
      c.in_ok-made.ensures.adds.grows.limit,
    )

pub choose-requires-clause-room : goal.choose-requires-clause-room
choose-requires-clause-room c =
    omega (
      arith,
      c.requires.room,
      c.in_ok-middle.ensures.adds.cells,
      c.in_ok-middle.ensures.adds.grows.limit,
      c.in_ok-positive.ensures.adds.cells,
      c.in_ok-positive.ensures.adds.grows.limit,
      c.in_ok-made.ensures.adds.cells,
      c.in_ok-made.ensures.adds.grows.limit,
      c.in_ok-turned.ensures.adds.cells,
      c.in_ok-turned.ensures.adds.grows.limit,
    )
