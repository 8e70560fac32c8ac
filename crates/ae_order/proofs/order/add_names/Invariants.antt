use Rattle.std.proofs.Common.{ℕ, List, ◌≡◌, ◌++◌, map, drop}
use Rattle.ae_judge.specs.Names.{Among}
use Rattle.ae_judge.specs.Symbols.{words_read}
use Rattle.ae_runs.specs.Named.{IsNamed, place_of}
use Rattle.ae_order.proofs.order.add_names.Given as goal

-- what is left are the names of the symbols that are left
abbrev pub invariant-symbol : goal.invariant-symbol
invariant-symbol l =
    (l.targets.items ++ map (place_of l.names.nets) (words_read l.names.words (drop l.symbol-index l.symbols))
    ≡ l.fn.targets.items ++ map (place_of l.names.nets) (words_read l.names.words l.symbols))
    × ((n : List ℕ) → Among n (words_read l.names.words (drop l.symbol-index l.symbols)) → IsNamed l.names.nets n)
