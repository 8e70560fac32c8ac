use Rattle.std.proofs.Common.{arith}
use Rattle.ae_gates.proofs.Words.{adds_sum, net_grows, word_grows}
use Rattle.ae_gates.proofs.compounds.tested.Goals as goal

pub is_zero-requires-2-clause-from : goal.is_zero-requires-2-clause-from
is_zero-requires-2-clause-from c = omega (arith, c.requires.from, c.in_ok-first.ensures.adds.more)

pub is_zero-requires-2-clause-net : goal.is_zero-requires-2-clause-net
is_zero-requires-2-clause-net c = net_grows c.in_ok-first.ensures.adds.grows c.requires.right

pub is_zero-requires-2-clause-room : goal.is_zero-requires-2-clause-room
is_zero-requires-2-clause-room c = omega (arith, c.requires.room, c.in_ok-first.ensures.adds.few, c.in_ok-first.ensures.adds.grows.grows.limit)

pub opposed-requires-clause-from : goal.opposed-requires-clause-from
opposed-requires-clause-from c = omega (arith, c.requires.from, c.in_ok-first.ensures.adds.more, c.in_ok-second.ensures.adds.more)

pub opposed-requires-clause-left : goal.opposed-requires-clause-left
opposed-requires-clause-left c = net_grows c.in_ok-second.ensures.adds.grows c.in_ok-first.ensures.net

pub opposed-requires-clause-room : goal.opposed-requires-clause-room
opposed-requires-clause-room c =
    omega (
      arith,
      c.requires.room,
      c.in_ok-first.ensures.adds.few,
      c.in_ok-second.ensures.adds.few,
      c.in_ok-first.ensures.adds.grows.grows.limit,
      c.in_ok-second.ensures.adds.grows.grows.limit,
    )

pub returns-clause-adds : goal.returns-clause-adds
returns-clause-adds c = adds_sum (adds_sum c.in_ok-first.ensures.adds c.in_ok-second.ensures.adds) c.in_ok-y.ensures.adds

pub returns-clause-word : goal.returns-clause-word
returns-clause-word c =
    λ f g x y. c.in_ok-y.ensures.word _ _ (word_grows c.in_ok-second.ensures.adds.grows (c.in_ok-first.ensures.word f x))
    (c.in_ok-second.ensures.word g (word_grows c.in_ok-first.ensures.adds.grows y))
