use Rattle.std.proofs.Common.{ap, ◌∙◌}
use Rattle.ae_vmodule.specs.Postfix.{decoded}
use Rattle.ae_vmodule.proofs.PostfixLaws.{decoded_coded, code_is}
use Rattle.ae_vmodule.proofs.roots.whole.Goals as goal

pub invariant_of-result : goal.invariant_of-result
invariant_of-result c = record { code = code_is _ c.requires.0 c.requires.1 }

pub returns : goal.returns
returns c a h = ap decoded h ∙ decoded_coded a
