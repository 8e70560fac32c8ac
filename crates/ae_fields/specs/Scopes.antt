-- Names in scope, as lists of bytes in the order in which they were given.
use Rattle.std.specs.Prelude.{ℕ, Bool, List, Option, map, position, Vec}
use Rattle.std.specs.Str.{bytes_eq}
use Rattle.std.specs.List.{list_any}
use Rattle.std.specs.declared.alloc.Global.{Global}

-- the number of a name
abbrev pub place : List ℕ → List (List ℕ) → Option ℕ
place name names = position (bytes_eq name) names

-- whether a name is there
abbrev pub is_known : List ℕ → List (List ℕ) → Bool
is_known name names = list_any (bytes_eq name) names

abbrev pub bytes_of : Vec ℕ Global → List ℕ
bytes_of v = v.items

-- the bytes of the names of the code
abbrev pub names_of : List (Vec ℕ Global × Unit {0}) → List (List ℕ)
names_of es = map (λ (e : Vec ℕ Global × Unit {0}). e.0.items) es
