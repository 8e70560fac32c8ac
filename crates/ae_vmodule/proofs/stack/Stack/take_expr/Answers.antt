use Rattle.std.proofs.Common.{ap, ◌∙◌}
use Rattle.ae_vmodule.specs.Numbered.{expr}
use Rattle.ae_vmodule.specs.Postfix.{decoded}
use Rattle.ae_vmodule.proofs.PostfixLaws.{decoded_coded, code_is}
use Rattle.ae_vmodule.proofs.stack.Stack.take_expr.Goals as goal

pub invariant_of-result : goal.invariant_of-result
invariant_of-result c =
    let h = c.requires.some in
    record { code = code_is _ h.0 (c.in_ok-symbols.ensures (expr h.0) h.1 h.2) }

pub returns-clause-code : goal.returns-clause-code
returns-clause-code c a below is = ap decoded (c.in_ok-symbols.ensures (expr a) below is) ∙ decoded_coded a
