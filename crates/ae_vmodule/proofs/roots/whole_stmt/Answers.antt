use Rattle.std.proofs.Common.{ap, ◌∙◌}
use Rattle.ae_vmodule.specs.Postfix.{decoded_stmt}
use Rattle.ae_vmodule.proofs.PostfixLaws.{decoded_coded_stmt, stmt_code_is}
use Rattle.ae_vmodule.proofs.roots.whole_stmt.Goals as goal

pub invariant_of-result : goal.invariant_of-result
invariant_of-result c = record { code = stmt_code_is _ c.requires.0 c.requires.1 }

pub returns : goal.returns
returns c s h = ap decoded_stmt h ∙ decoded_coded_stmt s
