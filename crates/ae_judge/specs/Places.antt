-- Names with places, and the places of a module's nets.
use Rattle.std.specs.Prelude.{ℕ, suc, ◌≡◌, ◌<◌, length, List, [], ◌∷◌, ◌++◌, Option, Some, None, is_some, if◌then◌else◌, bytes_eq, map, slice_get, option_map}
use Rattle.std.specs.List.{list_any}
use Rattle.std.specs.Borrow.{Bor}
use Rattle.ae_vmodule.specs.ModuleTree.{NetTree}
use Rattle.ae_vmodule.specs.View.{word_at}

-- a name and its place
abbrev pub Entry : Type 0
Entry = List ℕ × ℕ

-- the place of a name
abbrev pub place_in : List Entry → List ℕ → Option ℕ
place_in [] n = None
place_in (e ∷ es) n = if bytes_eq n e.0 then Some e.1 else place_in es n

-- with a name behind the others, unless it is there
abbrev pub with_place : List Entry → List ℕ → ℕ → List Entry
with_place es n p = if is_some (place_in es n) then es else es ++ (n, p) ∷ []

-- the entries of the code
abbrev pub places_of : List (Bor (List ℕ) × ℕ) → List Entry
places_of es = map (λ (e : Bor (List ℕ) × ℕ). (e.0.now, e.1)) es

-- these names have places, and no others
abbrev pub HasNames : List Entry → List (List ℕ) → Type 0
HasNames es ns = (n : List ℕ) → is_some (place_in es n) ≡ list_any (bytes_eq n) ns

-- the place of the first net of a name
abbrev pub place_named : List NetTree → List ℕ → Option ℕ
place_named [] n = None
place_named (x ∷ xs) n = if bytes_eq x.name n then Some 0 else option_map suc (place_named xs n)

-- each name's place is that of its declaration
abbrev pub Finds : List NetTree → List Entry → Type 0
Finds ns es = (n : List ℕ) → place_in es n ≡ place_named ns n

-- what is noted of a name: the place of its entry; nothing of the empty one
abbrev pub place_noted : List Entry → List ℕ → Option ℕ
place_noted es [] = None
place_noted es (c ∷ cs) = place_in es (c ∷ cs)

-- the places of the entries, by the numbers of their names, and that of the empty name
pub record AreNoted (ws : List (List ℕ)) (es : List Entry) (ps : List (Option ℕ)) (empty : Option ℕ) : Type 0 where
  pub long : length ps ≡ length ws
  pub each : (k : ℕ) → k < length ws → slice_get ps k ≡ Some (place_noted es (word_at ws k))
  pub blank : empty ≡ place_in es []

abbrev pub ArePlaces : List (List ℕ) → List NetTree → List (Option ℕ) → Type 0
ArePlaces ws ns ps = (k p : ℕ) → slice_get ps k ≡ Some (Some p) → place_named ns (word_at ws k) ≡ Some p
