use Rattle.std.proofs.Common.{ℕ, List, ◌%◌, ◌^◌, ap, ◌∙◌, arith}
use Rattle.ae_netlist.specs.Runs.{Clock}
use Rattle.ae_gates.proofs.Words.{adds_sum, grows_trans, net_grows, same_word, word_grows}
use Rattle.ae_gates.proofs.ShiftLaws.{stage_moved}
use Rattle.ae_gates.specs.Shifts.{moved}
use Rattle.ae_gates.proofs.compounds.stage.Goals as goal

pub select-requires-clause-right : goal.select-requires-clause-right
select-requires-clause-right c = net_grows (grows_trans c.in_ok-far.ensures.adds.grows c.in_ok-bit.ensures.adds.grows) c.requires.net

pub cut-requires-clause-from : goal.cut-requires-clause-from
cut-requires-clause-from c = omega (arith, c.requires.from, c.in_ok-far.ensures.adds.more)

pub cut-requires-clause-net : goal.cut-requires-clause-net
cut-requires-clause-net c = net_grows c.in_ok-far.ensures.adds.grows c.requires.amount

pub cut-requires-clause-room : goal.cut-requires-clause-room
cut-requires-clause-room c = omega (arith, c.requires.room, c.in_ok-far.ensures.adds.few, c.in_ok-far.ensures.adds.grows.grows.limit)

pub select-requires-clause-from : goal.select-requires-clause-from
select-requires-clause-from c = omega (arith, c.requires.from, c.in_ok-far.ensures.adds.more, c.in_ok-bit.ensures.adds.more)

pub select-requires-clause-left : goal.select-requires-clause-left
select-requires-clause-left c = net_grows c.in_ok-bit.ensures.adds.grows c.in_ok-far.ensures.net

pub returns-clause-adds : goal.returns-clause-adds
returns-clause-adds c = adds_sum (adds_sum c.in_ok-far.ensures.adds c.in_ok-bit.ensures.adds) c.in_ok-y.ensures.adds

pub returns-clause-word : goal.returns-clause-word
returns-clause-word c = λ f g x y.
    let g2 = grows_trans c.in_ok-far.ensures.adds.grows c.in_ok-bit.ensures.adds.grows in
    let held : List Clock → ℕ → ℕ = λ run t. moved c.args.way c.args.width (f run t) (g run t % 2 ^ c.args.i) in
    let far = same_word _ (λ run t. moved c.args.way c.args.width (held run t) (2 ^ c.args.i))
    (λ run t. c.shift-op.ensures.word c.args.width (held run t) (held run t) (held run t) ∙ ap (moved c.args.way c.args.width (held run t)) c.power.ensures)
    (c.in_ok-far.ensures.word held held x x) in
    let bit = c.in_ok-bit.ensures.word g (word_grows c.in_ok-far.ensures.adds.grows y) in
    same_word _ _ (λ run t. stage_moved c.args.way c.args.width (f run t) (g run t) c.args.i)
    (c.in_ok-y.ensures.word _ _ _ bit (word_grows c.in_ok-bit.ensures.adds.grows far) (word_grows g2 x))

pub select-requires-clause-room : goal.select-requires-clause-room
select-requires-clause-room c =
    let a = c.in_ok-far.ensures.adds.few in
    let b = c.in_ok-bit.ensures.adds.few in
    let m = c.in_ok-far.ensures.adds.grows.grows.limit in
    let n = c.in_ok-bit.ensures.adds.grows.grows.limit in
    let r = c.requires.room in
    omega arith
