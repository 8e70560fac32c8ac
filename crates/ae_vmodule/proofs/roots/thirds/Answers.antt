use Rattle.std.proofs.Common.{◌∙◌}
use Rattle.ae_vmodule.proofs.PostfixLaws.{first_third}
use Rattle.ae_vmodule.proofs.roots.thirds.Goals as goal

pub returns-clause-test : goal.returns-clause-test
returns-clause-test c test a b h = c.split_at.ensures.front ∙ first_third _ _ _ test a b h
