use Rattle.std.proofs.Common.{◌≡◌, drop}
use Rattle.std.specs.List.{list_any}
use Rattle.ae_judge.specs.Judging.{is_unknown}
use Rattle.ae_judge.specs.Symbols.{words_read}
use Rattle.ae_judge.proofs.unknown.symbols_unknown.Given as goal

abbrev pub invariant-symbol : goal.invariant-symbol
invariant-symbol l =
    list_any (is_unknown l.names.nets l.number l.given) (words_read l.names.words (drop l.symbol-index l.symbols))
    ≡ list_any (is_unknown l.names.nets l.number l.given) (words_read l.names.words l.symbols)
