use Rattle.std.proofs.Common.{◌∙◌}
use Rattle.ae_vmodule.proofs.PostfixLaws.{first_half, second_half}
use Rattle.ae_vmodule.proofs.roots.halves.Goals as goal

pub returns-clause-first : goal.returns-clause-first
returns-clause-first c a b h = c.split_at.ensures.front ∙ first_half _ _ a b h

pub returns-clause-second : goal.returns-clause-second
returns-clause-second c a b h = c.split_at.ensures.back ∙ second_half _ _ a b h
