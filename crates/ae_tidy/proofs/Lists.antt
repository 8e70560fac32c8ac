-- Elements of a list that are written.
use Rattle.std.proofs.Common.{ℕ, zero, suc, ◌≡◌, List, [], ◌∷◌, ◌++◌, length, set, Some, slice_get, refl, ap}

pub set_last : {X : Type 0} (xs : List X) (x y : X) → set (xs ++ x ∷ []) (length xs) y ≡ xs ++ y ∷ []
set_last [] x y = refl
set_last (z ∷ xs) x y = ap (λ l. z ∷ l) (set_last xs x y)

-- an element that is written again
pub set_itself : {X : Type 0} (xs : List X) (n : ℕ) (x : X) → slice_get xs n ≡ Some x → set xs n x ≡ xs
set_itself [] n x h = refl
set_itself (y ∷ xs) zero x h = let e : y ≡ x = cc in rw e refl
set_itself (y ∷ xs) (suc n) x h = ap (λ l. y ∷ l) (set_itself xs n x h)
