use Rattle.ae_gates.proofs.compounds.opposed.Goals as goal

pub returns-clause-word : goal.returns-clause-word
returns-clause-word c = λ f g x y. let bit = c.in_ok-bit.ensures.word f g x y in c.in_ok-y.ensures.word _ (c.in_ok-turned.ensures.word _ _ bit bit)
