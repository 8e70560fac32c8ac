use Rattle.std.proofs.Common.{arith}
use Rattle.ae_gates.proofs.Words.{adds_sum, back, grows_trans, net_grows, word_by, word_grows}
use Rattle.ae_gates.proofs.ShiftLaws.{ended_moved}
use Rattle.ae_gates.proofs.compounds.ended.Goals as goal

pub chosen-requires-clause-right : goal.chosen-requires-clause-right
chosen-requires-clause-right c = net_grows (grows_trans c.in_ok-above.ensures.adds.grows c.in_ok-zero.ensures.adds.grows) c.requires.net

pub fixed-requires-clause-from : goal.fixed-requires-clause-from
fixed-requires-clause-from c = omega (arith, c.requires.from, c.in_ok-above.ensures.adds.more)

pub fixed-requires-clause-room : goal.fixed-requires-clause-room
fixed-requires-clause-room c = omega (arith, c.requires.room, c.in_ok-above.ensures.adds.few, c.in_ok-above.ensures.adds.grows.grows.limit)

pub chosen-requires-clause-from : goal.chosen-requires-clause-from
chosen-requires-clause-from c = omega (arith, c.requires.from, c.in_ok-above.ensures.adds.more, c.in_ok-zero.ensures.adds.more)

pub chosen-requires-clause-test : goal.chosen-requires-clause-test
chosen-requires-clause-test c = net_grows c.in_ok-zero.ensures.adds.grows c.in_ok-above.ensures.net

pub chosen-requires-clause-room : goal.chosen-requires-clause-room
chosen-requires-clause-room c =
    omega (
      arith,
      c.requires.room,
      c.in_ok-above.ensures.adds.few,
      c.in_ok-zero.ensures.adds.few,
      c.in_ok-above.ensures.adds.grows.grows.limit,
      c.in_ok-zero.ensures.adds.grows.grows.limit,
    )

pub returns-clause-adds : goal.returns-clause-adds
returns-clause-adds c = adds_sum (adds_sum c.in_ok-above.ensures.adds c.in_ok-zero.ensures.adds) c.in_ok-y.ensures.adds

pub returns-clause-word : goal.returns-clause-word
returns-clause-word c = λ f g x y small.
    let g2 = grows_trans c.in_ok-above.ensures.adds.grows c.in_ok-zero.ensures.adds.grows in
    let g3 = grows_trans g2 c.in_ok-y.ensures.adds.grows in
    let above = word_grows c.in_ok-zero.ensures.adds.grows (c.in_ok-above.ensures.word g g y y) in
    word_by _ _ (λ all k run is t l. ended_moved c.args.way c.args.width (f run t) (g run t) c.requires.high (small all (back g3 k) run is t l))
    (c.in_ok-y.ensures.word _ _ _ above c.in_ok-zero.ensures.word (word_grows g2 x))
