use Rattle.std.proofs.Common.{◌≡◌, drop}
use Rattle.std.specs.List.{list_any}
use Rattle.ae_judge.specs.Symbols.{is_bounded}
use Rattle.ae_judge.proofs.widths.any_bounded.Given as goal

abbrev pub invariant-symbol : goal.invariant-symbol
invariant-symbol l = list_any is_bounded (drop l.symbol-index l.symbols) ≡ list_any is_bounded l.symbols
