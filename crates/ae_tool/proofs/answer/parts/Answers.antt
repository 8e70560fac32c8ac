use Rattle.std.proofs.Common.{Bool, ◌∙◌, sym, subst}
use Rattle.ae_fields.specs.Rows.{rows}
use Rattle.ae_tool.specs.Cuts.{AreParts}
use Rattle.ae_tool.proofs.answer.parts.Goals as goal

pub returns-else-takes_whole-clause-parts : goal.returns-else-takes_whole-clause-parts
returns-else-takes_whole-clause-parts c =
    subst (λ (b : Bool). AreParts b c.args.bytes.now c.cut.result.0.now (rows c.cut.result.1.now))
    (sym c.if-takes_whole.false ∙ c.takes_whole.ensures) c.cut.ensures.parts
