-- The sum of both words, and the choice behind it.
use Rattle.std.proofs.Common.{◌==◌, if◌then◌else◌, ap, arith, ◌∙◌}
use Rattle.ae_netlist.specs.Runs.{word_at}
use Rattle.ae_netlist.proofs.Carried.{carries_later}
use Rattle.ae_gates.proofs.Adding.{adds_trans, net_added}
use Rattle.ae_gates.proofs.Added.{back, grows_length}
use Rattle.ae_ops.proofs.sums.gated.Goals as goal

pub choose-requires-clause-condition : goal.choose-requires-clause-condition
choose-requires-clause-condition c = net_added c.in_ok-whole.ensures.adds c.requires.condition

pub choose-requires-clause-left : goal.choose-requires-clause-left
choose-requires-clause-left c = net_added c.in_ok-whole.ensures.adds c.requires.left

pub returns-clause-adds : goal.returns-clause-adds
returns-clause-adds c = adds_trans c.in_ok-whole.ensures.adds c.in_ok-chosen.ensures.adds

pub returns-clause-words : goal.returns-clause-words
returns-clause-words c = λ all k2 run is t l.
    let k1 = back c.in_ok-chosen.ensures.adds.grows k2 in
    let l1 = grows_length c.in_ok-whole.ensures.adds.grows in
    c.in_ok-chosen.ensures.words all (carries_later _ _ l1 k2) run is t l
    ∙ ap (λ n. if word_at run t c.args.gate.condition.0 == 1 then word_at run t c.args.a.0 else n) (c.in_ok-whole.ensures.words all k1 run is t l)

pub choose-requires-clause-room : goal.choose-requires-clause-room
choose-requires-clause-room c = omega (arith, c.requires.room, c.in_ok-whole.ensures.adds.cells, c.in_ok-whole.ensures.adds.grows.limit)
