use Rattle.ae_gates.proofs.Words.{widen_word}
use Rattle.ae_gates.proofs.gates.widen.Goals as goal

pub returns-clause-word : goal.returns-clause-word
returns-clause-word c = λ f p. widen_word _ _ _ _ _ _ _ c.requires.within c.in_ok-y.ensures.adds.grows f p (c.in_ok-y.ensures.word f f p p)
