use Rattle.std.proofs.Common.{arith}
use Rattle.ae_gates.proofs.Words.{adds_sum, back, grows_trans, linked_word, net_grows, word_grows}
use Rattle.ae_gates.proofs.compounds.linked.Goals as goal

pub widen-requires-2-clause-net : goal.widen-requires-2-clause-net
widen-requires-2-clause-net c = net_grows (grows_trans c.in_ok-wide.ensures.adds.grows c.in_ok-up.ensures.adds.grows) c.requires.right

pub gate-requires-clause-from : goal.gate-requires-clause-from
gate-requires-clause-from c = omega (arith, c.requires.from, c.in_ok-wide.ensures.adds.more)

pub gate-requires-clause-room : goal.gate-requires-clause-room
gate-requires-clause-room c = omega (arith, c.requires.room, c.in_ok-wide.ensures.adds.few, c.in_ok-wide.ensures.adds.grows.grows.limit)

pub widen-requires-2-clause-from : goal.widen-requires-2-clause-from
widen-requires-2-clause-from c = omega (arith, c.requires.from, c.in_ok-wide.ensures.adds.more, c.in_ok-up.ensures.adds.more)

pub widen-requires-2-clause-room : goal.widen-requires-2-clause-room
widen-requires-2-clause-room c =
    omega (
      arith,
      c.requires.room,
      c.in_ok-wide.ensures.adds.few,
      c.in_ok-up.ensures.adds.few,
      c.in_ok-wide.ensures.adds.grows.grows.limit,
      c.in_ok-up.ensures.adds.grows.grows.limit,
    )

pub gate-requires-2-clause-from : goal.gate-requires-2-clause-from
gate-requires-2-clause-from c = omega (arith, c.requires.from, c.in_ok-wide.ensures.adds.more, c.in_ok-up.ensures.adds.more, c.in_ok-low.ensures.adds.more)

pub gate-requires-2-clause-left : goal.gate-requires-2-clause-left
gate-requires-2-clause-left c = net_grows c.in_ok-low.ensures.adds.grows c.in_ok-up.ensures.net

pub gate-requires-2-clause-room : goal.gate-requires-2-clause-room
gate-requires-2-clause-room c =
    omega (
      arith,
      c.requires.room,
      c.in_ok-wide.ensures.adds.few,
      c.in_ok-up.ensures.adds.few,
      c.in_ok-low.ensures.adds.few,
      c.in_ok-wide.ensures.adds.grows.grows.limit,
      c.in_ok-up.ensures.adds.grows.grows.limit,
      c.in_ok-low.ensures.adds.grows.grows.limit,
    )

pub returns-clause-adds : goal.returns-clause-adds
returns-clause-adds c = adds_sum (adds_sum (adds_sum c.in_ok-wide.ensures.adds c.in_ok-up.ensures.adds) c.in_ok-low.ensures.adds) c.in_ok-y.ensures.adds

pub returns-clause-word : goal.returns-clause-word
returns-clause-word c = λ f g x y.
    let g2 = grows_trans c.in_ok-wide.ensures.adds.grows c.in_ok-up.ensures.adds.grows in
    let g3 = grows_trans g2 c.in_ok-low.ensures.adds.grows in
    let g4 = grows_trans g3 c.in_ok-y.ensures.adds.grows in
    let a = c.in_ok-wide.ensures.word f x in
    let up = c.in_ok-up.ensures.word f f a a in
    linked_word _ _ _ _ _ _ _ _ _ f g (omega arith) x y (λ all k. back g4 k)
    (c.in_ok-y.ensures.word _ g (word_grows c.in_ok-low.ensures.adds.grows up) (c.in_ok-low.ensures.word g (word_grows g2 y)))
