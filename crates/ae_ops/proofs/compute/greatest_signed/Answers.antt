-- The comparison the other way round, and a choice by it.
use Rattle.std.proofs.Common.{arith}
use Rattle.ae_netlist.proofs.Carried.{carries_later}
use Rattle.ae_gates.proofs.Adding.{adds_trans, net_added}
use Rattle.ae_gates.proofs.Added.{back, grows_length}
use Rattle.ae_gates.proofs.Fits.{held_fits}
use Rattle.ae_ops.proofs.SignWords.{greatest_is}
use Rattle.ae_ops.proofs.compute.greatest_signed.Goals as goal

pub choose-requires-clause-left : goal.choose-requires-clause-left
choose-requires-clause-left c = net_added c.in_ok-turned.ensures.adds c.requires.left

pub choose-requires-clause-right : goal.choose-requires-clause-right
choose-requires-clause-right c = net_added c.in_ok-turned.ensures.adds c.requires.right

pub returns-clause-adds : goal.returns-clause-adds
returns-clause-adds c = adds_trans c.in_ok-turned.ensures.adds c.in_ok-greatest.ensures.adds

pub returns-clause-words : goal.returns-clause-words
returns-clause-words c = λ all k2 run is t l.
    let k1 = back c.in_ok-greatest.ensures.adds.grows k2 in
    let l1 = grows_length c.in_ok-turned.ensures.adds.grows in
    greatest_is c.args.width _ _ 0 _ _
    (held_fits all run t c.args.a.0 c.args.width is l (k1.nets _ _ (net_added c.in_ok-turned.ensures.adds c.requires.left)))
    (held_fits all run t c.args.b.0 c.args.width is l (k1.nets _ _ (net_added c.in_ok-turned.ensures.adds c.requires.right)))
    (c.in_ok-turned.ensures.words all k1 run is t l)
    (c.in_ok-greatest.ensures.words all (carries_later _ _ l1 k2) run is t l)

pub choose-requires-clause-room : goal.choose-requires-clause-room
choose-requires-clause-room c = omega (arith, c.requires.room, c.in_ok-turned.ensures.adds.cells, c.in_ok-turned.ensures.adds.grows.limit)
