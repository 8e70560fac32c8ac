-- The symbols weigh what the expression does.
use Rattle.std.proofs.Common.{false, ap, ◌∙◌}
use Rattle.std.specs.Prelude.{min}
use Rattle.ae_vmodule.specs.Roots.{numbered}
use Rattle.ae_judge.specs.Symbols.{symbols_weight}
use Rattle.ae_judge.proofs.SymbolWeights.{weight_coded}
use Rattle.ae_judge.proofs.weigh.expr_weight.Goals as goal

pub returns : goal.returns
returns c ws =
    c.symbols_weight.ensures ∙ ap (λ ss. min (symbols_weight false false ss) 10000001) c.symbols.ensures
    ∙ ap (λ w. min w 10000001) (weight_coded ws (numbered c.args.whole))
