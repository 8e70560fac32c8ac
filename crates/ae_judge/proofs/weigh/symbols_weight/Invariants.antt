use Rattle.std.proofs.Common.{◌≡◌, ◌≤◌, ◌+◌, drop, false}
use Rattle.std.specs.Prelude.{min}
use Rattle.ae_judge.specs.Symbols.{symbols_weight}
use Rattle.ae_judge.proofs.weigh.symbols_weight.Given as goal

-- what is left makes it whole
abbrev pub invariant-symbol : goal.invariant-symbol
invariant-symbol l =
    (min (l.total + symbols_weight l.placed l.fixed (drop l.symbol-index l.symbols)) 10000001 ≡ min (symbols_weight false false l.symbols) 10000001)
    × (l.total ≤ 10000001)
