use Rattle.ae_gates.proofs.Words.{gates_added, select_word}
use Rattle.ae_gates.proofs.gates.select.Goals as goal

pub returns-clause-adds : goal.returns-clause-adds
returns-clause-adds c = gates_added c.in_ok-y.ensures.adds c.in_ok-y.ensures.registers

pub returns-clause-word : goal.returns-clause-word
returns-clause-word c =
    let adds = gates_added c.in_ok-y.ensures.adds c.in_ok-y.ensures.registers in
    select_word _ _ _ _ _ c.args.bit c.args.a c.args.b c.requires.from adds.grows c.in_ok-y.ensures.net c.in_ok-y.ensures.words
