use Rattle.std.proofs.Common.{arith}
use Rattle.ae_gates.proofs.Words.{adds_sum, net_grows, word_grows}
use Rattle.ae_gates.proofs.compounds.is_zero.Goals as goal

pub gate-requires-clause-from : goal.gate-requires-clause-from
gate-requires-clause-from c = omega (arith, c.requires.from, c.in_ok-zero.ensures.adds.more)

pub gate-requires-clause-left : goal.gate-requires-clause-left
gate-requires-clause-left c = net_grows c.in_ok-zero.ensures.adds.grows c.requires.net

pub gate-requires-clause-room : goal.gate-requires-clause-room
gate-requires-clause-room c = omega (arith, c.requires.room, c.in_ok-zero.ensures.adds.few, c.in_ok-zero.ensures.adds.grows.grows.limit)

pub returns-clause-adds : goal.returns-clause-adds
returns-clause-adds c = adds_sum c.in_ok-zero.ensures.adds c.in_ok-y.ensures.adds

pub returns-clause-word : goal.returns-clause-word
returns-clause-word c = λ f x. c.in_ok-y.ensures.word f _ (word_grows c.in_ok-zero.ensures.adds.grows x) c.in_ok-zero.ensures.word
