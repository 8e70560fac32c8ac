-- What calls do to bytes that a source has left and a sink has written, where these are told.
use Rattle.std.specs.Prelude.{◌≡◌, ◌↔◌, ℕ, ◌≤◌, List, [], ◌++◌, length, take, drop, Option, Some, IfSome}

-- where the bytes left are told, they began with these, and these were taken
abbrev pub Takes : (old new : Option (List ℕ)) → List ℕ → Type 0
Takes old new bytes = IfSome old (λ left. (rest : List ℕ) × (left ≡ bytes ++ rest) × (new ≡ Some rest))

-- where the bytes left are told, there were n of them, and these were taken
abbrev pub TakesCount : (old new : Option (List ℕ)) → ℕ → Type 0
TakesCount old new n = IfSome old (λ left. (n ≤ length left) × (new ≡ Some (drop n left)))

-- where the bytes written are told, these were appended
abbrev pub Appends : (old new : Option (List ℕ)) → List ℕ → Type 0
Appends old new bytes = IfSome old (λ written. new ≡ Some (written ++ bytes))

-- where the bytes are told, they are as before
abbrev pub Stays : (old new : Option (List ℕ)) → Type 0
Stays old new = IfSome old (λ bytes. new ≡ Some bytes)

-- where the bytes written are told, some first bytes of these were appended
abbrev pub AppendsPrefix : (old new : Option (List ℕ)) → List ℕ → Type 0
AppendsPrefix old new bytes = (n : ℕ) × (n ≤ length bytes) × Appends old new (take n bytes)

-- where the bytes left are told, an answer of no bytes comes exactly where none is left
abbrev pub EndsWhereEmpty : (left : Option (List ℕ)) (n : ℕ) → Type 0
EndsWhereEmpty left n = IfSome left (λ bytes. (n ≡ 0) ↔ (bytes ≡ []))
