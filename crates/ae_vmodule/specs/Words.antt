-- Names by numbers.
use Rattle.std.specs.Prelude.{◌≡◌, ℕ, List, ◌++◌, map}
use Rattle.std.specs.Borrow.{Bor}

-- the names of the code
abbrev pub words_of : List (Bor (List ℕ)) → List (List ℕ)
words_of ws = map (λ (w : Bor (List ℕ)). w.now) ws

-- the old names with others behind them
abbrev pub Extends : List (List ℕ) → List (List ℕ) → Type 0
Extends old new = (more : List (List ℕ)) × (new ≡ old ++ more)
