use Rattle.std.proofs.Common.{sym, ◌∙◌}
use Rattle.ae_vmodule.specs.Postfix.{decoded_stmt}
use Rattle.ae_vmodule.proofs.PostfixLaws.{stmt_behind}
use Rattle.ae_vmodule.proofs.symbols.Stmt.root.Goals as goal

pub stmt_behind-requires : goal.stmt_behind-requires
stmt_behind-requires c = (decoded_stmt c.args.self.symbols.now, stmt_behind _ _ _ (sym c.args.self.code ∙ c.in-Some.ensures.cases.0))

pub returns : goal.returns
returns c = c.stmt_behind.ensures (decoded_stmt c.args.self.symbols.now) (stmt_behind _ _ _ (sym c.args.self.code ∙ c.in-Some.ensures.cases.0))
