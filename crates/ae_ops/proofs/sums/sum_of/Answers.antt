-- A gate on either side, and none.
use Rattle.ae_netlist.proofs.Growing.{net_width}
use Rattle.ae_ops.proofs.Gating.{gated_sum, plain_sum, turned}
use Rattle.ae_ops.proofs.sums.sum_of.Goals as goal

pub gated-requires-clause-right : goal.gated-requires-clause-right
gated-requires-clause-right c = rw (net_width c.requires.right) at c.in-Some.ensures.word

pub returns-in-Some-clause-words : goal.returns-in-Some-clause-words
returns-in-Some-clause-words c =
    gated_sum c.args.nl.now c.gated.new.nl c.in_ok-y.y c.args.a c.args.b c.in-Some.gate.condition c.in-Some.gate.word c.args.width
    c.in_ok-y.ensures.adds.grows c.requires.left c.in-Some.ensures c.in_ok-y.ensures.words

pub gated-requires-in-Some-gate_at-clause-right : goal.gated-requires-in-Some-gate_at-clause-right
gated-requires-in-Some-gate_at-clause-right c = rw (net_width c.requires.left) at c.in-Some-gate_at.ensures.word

pub returns-in-Some-gate_at-clause-words : goal.returns-in-Some-gate_at-clause-words
returns-in-Some-gate_at-clause-words c =
    let made = c.gated-in-Some-gate_at in
    let gate = c.in-Some-gate_at in
    turned made.new.nl.cells c.in_ok-y-2.y c.args.a c.args.b c.args.width
    (gated_sum c.args.nl.now made.new.nl c.in_ok-y-2.y c.args.b c.args.a gate.gate.condition gate.gate.word c.args.width c.in_ok-y-2.ensures.adds.grows
    c.requires.right
    gate.ensures c.in_ok-y-2.ensures.words)

pub returns-clause-words : goal.returns-clause-words
returns-clause-words c = plain_sum c.args.nl.now c.sum.new.nl c.in_ok-y-3.y c.args.a c.args.b c.args.width c.in_ok-y-3.ensures.words
