-- The cells of a lane behind a loop.
use Rattle.std.proofs.Common.{arith}
use Rattle.ae_netlist.proofs.Carried.{carries_extends, carries_later}
use Rattle.ae_gates.proofs.Adding.{adds_trans, net_added}
use Rattle.ae_gates.proofs.Added.{back}
use Rattle.ae_fold.proofs.Feeding.{adds_is, continues}
use Rattle.ae_fold.proofs.feedback.follow.Goals as goal

pub choose-requires-clause-condition : goal.choose-requires-clause-condition
choose-requires-clause-condition c = net_added c.in_ok-both.ensures.adds c.requires.first

pub choose-requires-clause-left : goal.choose-requires-clause-left
choose-requires-clause-left c = net_added c.in_ok-both.ensures.adds c.requires.net

pub returns-clause-adds : goal.returns-clause-adds
returns-clause-adds c = adds_is (omega arith) (omega arith) (adds_trans (adds_trans c.in_ok-both.ensures.adds c.in_ok-next.ensures.adds) c.in_ok-z.ensures.adds)

pub returns-clause-words : goal.returns-clause-words
returns-clause-words c = λ all e run is start y d late.
    let g2 = c.in_ok-next.ensures.adds.grows in
    let g3 = c.in_ok-z.ensures.adds.grows in
    let k3 = carries_extends 0 e in
    let k2 = back g3 k3 in
    let k1 = back g2 k2 in
    continues run c.args.fold.op c.args.fold.width d y start c.in_ok-z.z c.args.back c.args.x c.args.first c.in_ok-both.both c.in_ok-next.next late
    (c.in_ok-both.ensures.words all (carries_later _ _ (omega arith) k1) run is)
    (c.in_ok-next.ensures.words all (carries_later _ _ (omega arith) k2) run is)
    (c.in_ok-z.ensures.words all (carries_later _ _ (omega arith) k3) run is)

pub choose-requires-clause-room : goal.choose-requires-clause-room
choose-requires-clause-room c = omega (arith, c.requires.room, c.in_ok-both.ensures.adds.cells, c.in_ok-both.ensures.adds.grows.limit)

pub delayed-requires-clause-room : goal.delayed-requires-clause-room
delayed-requires-clause-room c =
    omega (
      arith,
      c.requires.room,
      c.in_ok-both.ensures.adds.cells,
      c.in_ok-both.ensures.adds.grows.limit,
      c.in_ok-next.ensures.adds.cells,
      c.in_ok-next.ensures.adds.grows.limit,
    )
