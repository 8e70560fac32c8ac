use Rattle.std.proofs.Common.{ap, ◌∙◌}
use Rattle.ae_vmodule.specs.Numbered.{stmt}
use Rattle.ae_vmodule.specs.Postfix.{decoded_stmt}
use Rattle.ae_vmodule.proofs.PostfixLaws.{decoded_coded_stmt, stmt_code_is}
use Rattle.ae_vmodule.proofs.stack.Stack.take_stmt.Goals as goal

pub invariant_of-result : goal.invariant_of-result
invariant_of-result c =
    let h = c.requires.some in
    record { code = stmt_code_is _ h.0 (c.in_ok-symbols.ensures (stmt h.0) h.1 h.2) }

pub returns-clause-code : goal.returns-clause-code
returns-clause-code c a below is = ap decoded_stmt (c.in_ok-symbols.ensures (stmt a) below is) ∙ decoded_coded_stmt a
