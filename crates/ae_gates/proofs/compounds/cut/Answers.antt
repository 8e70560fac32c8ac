use Rattle.ae_gates.proofs.compounds.cut.Goals as goal

pub returns-clause-word : goal.returns-clause-word
returns-clause-word c = λ f x. let down = c.in_ok-down.ensures.word f f x x in c.in_ok-y.ensures.word _ (c.in_ok-part.ensures.word _ _ down down)
