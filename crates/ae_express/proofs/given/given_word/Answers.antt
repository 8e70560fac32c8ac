use Rattle.ae_vmodule.specs.Roots.{numbered}
use Rattle.std.proofs.Common.{ℕ, ◌≡◌, ◌%◌, ◌^◌, max, subst}
use Rattle.ae_vmodule.specs.View.{expr_tree}
use Rattle.ae_judge.specs.Widths.{own_width}
use Rattle.ae_runs.specs.Values.{value_at}
use Rattle.ae_gates.specs.Cells.{IsWord}
use Rattle.ae_runs.specs.Named.{read}
use Rattle.ae_express.proofs.given.given_word.Goals as goal

pub returns-clause-word : goal.returns-clause-word
returns-clause-word c = λ at named.
    let wide : c.in_ok-x.wide ≡ max (own_width c.args.names.now.nets (expr_tree c.args.names.now.words (numbered c.args.e)))
    c.args.width = c.in_ok-x.ensures.width in
    subst (λ (w : ℕ). IsWord c.args.from c.fit.new.nl.cells c.in_ok-y.y.0 c.args.width
    (λ run t. value_at c.args.names.now.nets (read at run t) w (expr_tree c.args.names.now.words (numbered c.args.e)) % 2 ^ c.args.width)) wide
    (c.in_ok-y.ensures.word _ (c.in_ok-x.ensures.lowered.word at named))
