use Rattle.std.proofs.Common.{◌==◌, ap}
use Rattle.ae_word.specs.WordTable.{bit}
use Rattle.ae_vmodule.specs.Roots.{numbered}
use Rattle.ae_vmodule.specs.View.{expr_tree}
use Rattle.ae_runs.specs.Values.{value_at}
use Rattle.ae_runs.specs.Named.{read}
use Rattle.ae_gates.proofs.Words.{same_word}
use Rattle.ae_assign.proofs.statements.fails.Goals as goal

pub returns-clause-word : goal.returns-clause-word
returns-clause-word c = λ at n.
    same_word _ _ (λ run t. ap (λ w. bit (value_at c.args.names.now.nets (read at run t) w (expr_tree c.args.names.now.words (numbered c.args.test)) == 0))
    c.in_ok-x.ensures.own)
    (c.in_ok-y.ensures.word _ (c.in_ok-x.ensures.lowered.word at n))
