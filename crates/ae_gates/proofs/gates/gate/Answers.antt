use Rattle.ae_gates.proofs.Words.{gate_word, gates_added, two_operation}
use Rattle.ae_gates.proofs.gates.gate.Goals as goal

pub operate-requires-clause-operation : goal.operate-requires-clause-operation
operate-requires-clause-operation c =
    two_operation _ _ _ _ c.args.width _ c.requires.unsigned c.requires.plain c.requires.range c.requires.left c.requires.right c.requires.result

pub returns-clause-adds : goal.returns-clause-adds
returns-clause-adds c = gates_added c.in_ok-y.ensures.adds c.in_ok-y.ensures.registers

pub returns-clause-word : goal.returns-clause-word
returns-clause-word c =
    let adds = gates_added c.in_ok-y.ensures.adds c.in_ok-y.ensures.registers in
    gate_word _ _ _ _ _ _ c.args.op c.args.a c.args.b c.requires.plain c.requires.from adds.grows c.in_ok-y.ensures.net c.in_ok-y.ensures.words
