use Rattle.std.proofs.Common.{◌==◌, arith}
use Rattle.ae_gates.proofs.Words.{adds_sum, if_bit, net_grows, same_word, word_grows}
use Rattle.ae_gates.proofs.compounds.chosen.Goals as goal

pub select-requires-clause-from : goal.select-requires-clause-from
select-requires-clause-from c = omega (arith, c.requires.from, c.in_ok-zero.ensures.adds.more)

pub select-requires-clause-left : goal.select-requires-clause-left
select-requires-clause-left c = net_grows c.in_ok-zero.ensures.adds.grows c.requires.right

pub select-requires-clause-right : goal.select-requires-clause-right
select-requires-clause-right c = net_grows c.in_ok-zero.ensures.adds.grows c.requires.left

pub select-requires-clause-room : goal.select-requires-clause-room
select-requires-clause-room c = omega (arith, c.requires.room, c.in_ok-zero.ensures.adds.few, c.in_ok-zero.ensures.adds.grows.grows.limit)

pub returns-clause-adds : goal.returns-clause-adds
returns-clause-adds c = adds_sum c.in_ok-zero.ensures.adds c.in_ok-y.ensures.adds

pub returns-clause-word : goal.returns-clause-word
returns-clause-word c = λ h f g t x y.
    let g1 = c.in_ok-zero.ensures.adds.grows in
    same_word _ _ (λ run t. if_bit (h run t == 0) (g run t) (f run t))
    (c.in_ok-y.ensures.word _ g f (c.in_ok-zero.ensures.word h t) (word_grows g1 y) (word_grows g1 x))
