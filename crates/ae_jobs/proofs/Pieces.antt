-- The elements of a list that is mapped.
use Rattle.std.proofs.Common.{ℕ, zero, suc, ◌≡◌, ◌<◌, List, [], ◌∷◌, length, map, get_or, Some, slice_get, arith, refl, ap, sym}

pub at_index : {X Y : Type 0} (g : X → Y) (xs : List X) (i : ℕ) (x : X) → i < length xs → x ≡ get_or xs i x → slice_get (map g xs) i ≡ Some (g x)
at_index g [] i x h e = absurd (omega arith)
at_index g (y ∷ xs) zero x h e = ap (λ z. Some (g z)) (sym e)
at_index g (y ∷ xs) (suc i) x h e = at_index g xs i x (omega arith) e

pub length_mapped : {X Y : Type 0} (g : X → Y) (xs : List X) → length (map g xs) ≡ length xs
length_mapped g [] = refl
length_mapped g (x ∷ xs) = ap (λ n. suc n) (length_mapped g xs)
