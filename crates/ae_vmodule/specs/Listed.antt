-- The symbols of an expression or a statement, wherever they stand.
use Rattle.std.specs.Prelude.{List, [], ◌∷◌}
use Rattle.ae_vmodule.specs.declared.symbols.Symbol.{Symbol}
use Rattle.ae_vmodule.specs.declared.symbols.Symbols.{Symbols}
use Rattle.ae_vmodule.specs.declared.symbols.Symbols.TheVariants.{One, Many}

abbrev pub listed : Symbols → List Symbol
listed (One s) = s ∷ []
listed (Many ss) = ss.value.items
