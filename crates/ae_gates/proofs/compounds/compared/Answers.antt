use Rattle.ae_gates.proofs.compounds.compared.Goals as goal

pub returns-clause-word : goal.returns-clause-word
returns-clause-word c = λ f g x y. c.in_ok-y.ensures.word _ (c.in_ok-bit.ensures.word f g x y)
