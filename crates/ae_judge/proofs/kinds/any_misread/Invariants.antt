use Rattle.std.proofs.Common.{◌≡◌, drop, false}
use Rattle.ae_judge.specs.Symbols.{any_misread}
use Rattle.ae_judge.proofs.kinds.any_misread.Given as goal

abbrev pub invariant-symbol : goal.invariant-symbol
invariant-symbol l =
    any_misread l.names.nets l.names.words l.placed (drop l.symbol-index l.symbols) ≡ any_misread l.names.nets l.names.words false l.symbols
