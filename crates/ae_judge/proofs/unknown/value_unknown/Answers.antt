-- The names that the symbols read are those of the value.
use Rattle.std.proofs.Common.{ap, ◌∙◌}
use Rattle.std.specs.List.{list_any}
use Rattle.ae_vmodule.specs.Roots.{numbered}
use Rattle.ae_judge.specs.Judging.{is_unknown}
use Rattle.ae_judge.specs.Symbols.{words_read}
use Rattle.ae_judge.proofs.Read.{read_coded}
use Rattle.ae_judge.proofs.unknown.value_unknown.Goals as goal

pub returns : goal.returns
returns c =
    let unknown = is_unknown c.args.names.now.nets c.args.number c.args.given.now in
    let ws = c.args.names.now.words in
    c.symbols_unknown.ensures ∙ ap (λ ss. list_any unknown (words_read ws ss)) c.symbols.ensures ∙ read_coded unknown ws (numbered c.args.value)
