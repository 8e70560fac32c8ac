use Rattle.std.proofs.Common.{sym, ◌∙◌}
use Rattle.ae_vmodule.specs.Postfix.{decoded}
use Rattle.ae_vmodule.proofs.PostfixLaws.{behind}
use Rattle.ae_vmodule.proofs.symbols.Expr.root.Goals as goal

pub behind-requires : goal.behind-requires
behind-requires c = (decoded c.args.self.symbols.now, behind _ _ _ (sym c.args.self.code ∙ c.in-Some.ensures.cases.0))

pub returns : goal.returns
returns c = c.behind.ensures (decoded c.args.self.symbols.now) (behind _ _ _ (sym c.args.self.code ∙ c.in-Some.ensures.cases.0))
