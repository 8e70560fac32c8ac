-- Lists, element by element.
use Rattle.std.proofs.Common.{ℕ, zero, suc, ◌≡◌, ◌+◌, ◌<◌, ◌≤◌, max, fold, List, ◌∷◌, ◌++◌, [], map, take, sum_by, Some, slice_get, zero-add, arith, refl, ap, ◌∙◌}
use Rattle.std.specs.List.{range_with_len}
use Rattle.std.proofs.lemmas.List.{take_more}
use Rattle.std.proofs.lemmas.List.Sums.{sum_by-append, sum_by-take-le}
use Rattle.std.proofs.lemmas.Option.{slice_get_within, get_or_from_slice_get}

pub get_mapped : {X Y : Type 0} (f : X → Y) (xs : List X) (i : ℕ) (x : X) → slice_get xs i ≡ Some x → slice_get (map f xs) i ≡ Some (f x)
get_mapped f [] i x h = cc
get_mapped f (y ∷ xs) zero x h = let same : y ≡ x = cc in ap (λ z. Some (f z)) same
get_mapped f (y ∷ xs) (suc i) x h = get_mapped f xs i x h

pub take_push : {X : Type 0} (xs : List X) (i : ℕ) (x : X) → slice_get xs i ≡ Some x → take (i + 1) xs ≡ take i xs ++ x ∷ []
take_push xs i x found = take_more xs i x (slice_get_within xs i x found) ∙ ap (λ s. take i xs ++ s ∷ []) (get_or_from_slice_get xs i x x found)

pub sum_next : {X : Type 0} (f : X → ℕ) (xs : List X) (i : ℕ) (x : X) → slice_get xs i ≡ Some x → sum_by f (take (i + 1) xs) ≡ sum_by f (take i xs) + f x
sum_next f xs i x found = ap (sum_by f) (take_push xs i x found) ∙ sum_by-append f (take i xs) (x ∷ []) ∙ ap (λ n. sum_by f (take i xs) + n) (zero-add (f x))

pub sum_part : {X : Type 0} (f : X → ℕ) (xs : List X) (i : ℕ) → sum_by f (take i xs) ≤ sum_by f xs
sum_part f xs i = sum_by-take-le f xs i

pub from_first : {X : Type 0} (f : X → ℕ) (a : ℕ) (xs : List X) → a ≤ fold (λ most x. max most (f x)) a xs
from_first f a [] = omega arith
from_first f a (x ∷ xs) = let l : max a (f x) ≤ fold (λ most y. max most (f y)) (max a (f x)) xs = from_first f (max a (f x)) xs in omega arith

pub fold_ge : {X : Type 0} (f : X → ℕ) (a : ℕ) (xs : List X) (n : ℕ) (x : X) → slice_get xs n ≡ Some x → f x ≤ fold (λ most y. max most (f y)) a xs
fold_ge f a [] n x h = cc
fold_ge f a (y ∷ xs) zero x h =
    let same : y ≡ x = cc in
    let l : max a (f y) ≤ fold (λ most z. max most (f z)) (max a (f y)) xs = from_first f (max a (f y)) xs in
    let e : f y ≡ f x = ap f same in
    omega arith
fold_ge f a (y ∷ xs) (suc n) x h = fold_ge f (max a (f y)) xs n x h

pub range_get : (a n i : ℕ) → i < n → slice_get (range_with_len a n) i ≡ Some (a + i)
range_get a zero i l = absurd (omega arith)
range_get a (suc n) zero l = let e : a + 0 ≡ a = omega arith in rw e refl
range_get a (suc n) (suc i) l = let e : a + suc i ≡ a + 1 + i = omega arith in rw e (range_get (a + 1) n i (omega arith))
