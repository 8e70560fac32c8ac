use Rattle.std.proofs.Common.{length, sym, ap, arith, subst}
use Rattle.ae_vtoken.specs.Tokens.{AreTokens}
use Rattle.ae_vtoken.proofs.Fronts.{counted, many_tokens}
use Rattle.ae_vtoken.proofs.cursor.Tokens.start.Goals as goal

pub returns-in-Ok-clause-few : goal.returns-in-Ok-clause-few
returns-in-Ok-clause-few c =
    omega (arith, c.in-Ok.ensures.few, ap length c.behind.ensures, many_tokens c.in-Ok.left c.args.text.now)

pub returns-in-Ok-clause-tokens : goal.returns-in-Ok-clause-tokens
returns-in-Ok-clause-tokens c = subst (AreTokens c.args.text.now) (sym c.behind.ensures) (counted c.in-Ok.left c.args.text.now c.in-Ok.ensures.ok)
