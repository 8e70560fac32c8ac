-- Half of all codes added to both, and the comparison of the sums.
use Rattle.std.proofs.Common.{◌∙◌, arith}
use Rattle.ae_netlist.proofs.Carried.{carries_later}
use Rattle.ae_gates.proofs.Adding.{adds_trans, net_added}
use Rattle.ae_gates.proofs.Added.{back, grows_length}
use Rattle.ae_gates.proofs.Fits.{held_fits}
use Rattle.ae_ops.proofs.SignWords.{half_fits, raised_less}
use Rattle.ae_ops.proofs.compute.less_signed.Goals as goal

pub constant-requires-clause-fits : goal.constant-requires-clause-fits
constant-requires-clause-fits c = rw c.half.ensures (half_fits c.args.width c.limits.ensures.0)

pub sum-requires-clause-left : goal.sum-requires-clause-left
sum-requires-clause-left c = net_added c.in_ok-middle.ensures.adds c.requires.left

pub sum-requires-2-clause-left : goal.sum-requires-2-clause-left
sum-requires-2-clause-left c = net_added c.in_ok-left.ensures.adds (net_added c.in_ok-middle.ensures.adds c.requires.right)

pub sum-requires-2-clause-right : goal.sum-requires-2-clause-right
sum-requires-2-clause-right c = net_added c.in_ok-left.ensures.adds c.in_ok-middle.ensures.net

pub less-requires-clause-left : goal.less-requires-clause-left
less-requires-clause-left c = net_added c.in_ok-right.ensures.adds c.in_ok-left.ensures.net

pub returns-clause-adds : goal.returns-clause-adds
returns-clause-adds c =
    adds_trans (adds_trans (adds_trans c.in_ok-middle.ensures.adds c.in_ok-left.ensures.adds) c.in_ok-right.ensures.adds) c.in_ok-below.ensures.adds

pub returns-clause-words : goal.returns-clause-words
returns-clause-words c = λ all k4 run is t l.
    let g2 = c.in_ok-left.ensures.adds.grows in
    let g3 = c.in_ok-right.ensures.adds.grows in
    let g4 = c.in_ok-below.ensures.adds.grows in
    let l1 = grows_length c.in_ok-middle.ensures.adds.grows in
    let l2 = grows_length g2 in
    let l3 = grows_length g3 in
    let k3 = back g4 k4 in
    let k2 = back g3 k3 in
    let k1 = back g2 k2 in
    raised_less c.args.width _ _ 0 _ _ _ _ c.limits.ensures.0
    (held_fits all run t c.args.a.0 c.args.width is l (k1.nets _ _ (net_added c.in_ok-middle.ensures.adds c.requires.left)))
    (held_fits all run t c.args.b.0 c.args.width is l (k1.nets _ _ (net_added c.in_ok-middle.ensures.adds c.requires.right)))
    (c.in_ok-middle.ensures.words all k1 run is t l ∙ c.half.ensures)
    (c.in_ok-left.ensures.words all (carries_later _ _ l1 k2) run is t l)
    (c.in_ok-right.ensures.words all (carries_later _ _ (omega arith) k3) run is t l)
    (c.in_ok-below.ensures.words all (carries_later _ _ (omega arith) k4) run is t l)

pub sum-requires-clause-room : goal.sum-requires-clause-room
sum-requires-clause-room c = omega (arith, c.requires.room, c.in_ok-middle.ensures.adds.cells, c.in_ok-middle.ensures.adds.grows.limit)

pub sum-requires-2-clause-room : goal.sum-requires-2-clause-room
sum-requires-2-clause-room c =
    omega (
      arith,
      c.requires.room,
      c.in_ok-middle.ensures.adds.cells,
      c.in_ok-middle.ensures.adds.grows.limit,
      c.in_ok-left.ensures.adds.cells,
      c.in_ok-left.ensures.adds.grows.limit,
    )

pub less-requires-clause-room : goal.less-requires-clause-room
less-requires-clause-room c =
    omega (
      arith,
      c.requires.room,
      c.in_ok-middle.ensures.adds.cells,
      c.in_ok-middle.ensures.adds.grows.limit,
      c.in_ok-left.ensures.adds.cells,
      c.in_ok-left.ensures.adds.grows.limit,
      c.in_ok-right.ensures.adds.cells,
      c.in_ok-right.ensures.adds.grows.limit,
    )
