use Rattle.ae_gates.proofs.Words.{fixed_word, gates_added}
use Rattle.ae_gates.proofs.gates.fixed.Goals as goal

pub returns-clause-adds : goal.returns-clause-adds
returns-clause-adds c = gates_added c.in_ok-y.ensures.adds c.in_ok-y.ensures.registers

pub returns-clause-word : goal.returns-clause-word
returns-clause-word c = fixed_word _ _ _ _ _ _ c.requires.from c.in_ok-y.ensures.net c.in_ok-y.ensures.words
