-- What the symbols misuse is what the expression does.
use Rattle.std.proofs.Common.{false, ap, ◌∙◌}
use Rattle.ae_vmodule.specs.Roots.{numbered}
use Rattle.ae_judge.specs.Symbols.{any_misread}
use Rattle.ae_judge.proofs.Read.{misread_coded}
use Rattle.ae_judge.proofs.kinds.is_misused.Goals as goal

pub returns : goal.returns
returns c =
    let ns = c.args.names.now.nets in
    let ws = c.args.names.now.words in
    c.any_misread.ensures ∙ ap (any_misread ns ws false) c.symbols.ensures ∙ misread_coded ns ws (numbered c.args.value)
