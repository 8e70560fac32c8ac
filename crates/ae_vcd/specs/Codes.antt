-- Codes in the order in which each was declared first.
use Rattle.std.specs.Prelude.{ℕ, Bool, List, Option, map, position, Vec}
use Rattle.std.specs.Str.{bytes_eq}
use Rattle.std.specs.List.{list_any}
use Rattle.std.specs.declared.alloc.Global.{Global}

-- the number of a code
abbrev pub place : List ℕ → List (List ℕ) → Option ℕ
place code codes = position (bytes_eq code) codes

-- whether a code is there
abbrev pub is_known : List ℕ → List (List ℕ) → Bool
is_known code codes = list_any (bytes_eq code) codes

-- the codes of the table
abbrev pub codes_of : List (Vec ℕ Global × Unit {0}) → List (List ℕ)
codes_of es = map (λ (e : Vec ℕ Global × Unit {0}). e.0.items) es
