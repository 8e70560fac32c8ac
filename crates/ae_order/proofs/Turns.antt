-- One turn of a loop over a list, where the contract speaks of another view of its items.
use Rattle.std.proofs.Common.{ℕ, zero, suc, ◌≡◌, ◌+◌, ◌<◌, ◌≤◌, List, [], ◌∷◌, ◌++◌, length, get_or, take, map, Some, slice_get, refl, sym, ap, ◌∙◌, arith}
use Rattle.std.specs.List.{sum_by}
use Rattle.std.proofs.lemmas.List.{length-map}
use Rattle.std.proofs.lemmas.List.{get_or-map, take_more}
use Rattle.std.proofs.lemmas.List.Sums.{sum_by_more, sum_by_more_le}

module _ {X Y : Type 0} (f : X → Y) where
  -- the item of a turn
  pub at_turn : (xs : List X) (i : ℕ) (x : X) → i < length xs → x ≡ get_or xs i x → slice_get (map f xs) i ≡ Some (f x)
  at_turn [] i x l e = absurd (omega arith)
  at_turn (y ∷ xs) zero x l e = ap (λ u. Some (f u)) (sym e)
  at_turn (y ∷ xs) (suc i) x l e = at_turn xs i x (omega arith) e

  item_is : (xs : List X) (i : ℕ) (x : X) → i < length xs → x ≡ get_or xs i x → get_or (map f xs) i (f x) ≡ f x
  item_is xs i x l e = get_or-map f xs i x (f x) l ∙ ap f (sym e)

  pub take_turn : (xs : List X) (i : ℕ) (x : X) → i < length xs → x ≡ get_or xs i x → take (i + 1) (map f xs) ≡ take i (map f xs) ++ f x ∷ []
  take_turn xs i x l e =
      let long = length-map xs f in
      take_more (map f xs) i (f x) (omega arith) ∙ ap (λ u. take i (map f xs) ++ u ∷ []) (item_is xs i x l e)

  pub sum_turn : (g : Y → ℕ) (xs : List X) (i : ℕ) (x : X) → i < length xs → x ≡ get_or xs i x
      → sum_by g (take (i + 1) (map f xs)) ≡ sum_by g (take i (map f xs)) + g (f x)
  sum_turn g xs i x l e =
      let long = length-map xs f in
      sum_by_more g (map f xs) i (f x) (omega arith) ∙ ap (λ u. sum_by g (take i (map f xs)) + g u) (item_is xs i x l e)

  pub sum_turn_le : (g : Y → ℕ) (xs : List X) (i : ℕ) (x : X) → i < length xs → x ≡ get_or xs i x → sum_by g (take i (map f xs)) + g (f x) ≤ sum_by g (map f xs)
  sum_turn_le g xs i x l e =
      let long = length-map xs f in
      let h = sum_by_more_le g (map f xs) i (f x) (omega arith) in
      let k : g (get_or (map f xs) i (f x)) ≡ g (f x) = ap g (item_is xs i x l e) in
      omega arith

-- all items
pub take_whole : {X : Type 0} (xs : List X) (i : ℕ) → length xs ≤ i → take i xs ≡ xs
take_whole [] zero l = refl
take_whole [] (suc i) l = refl
take_whole (x ∷ xs) zero l = absurd (omega arith)
take_whole (x ∷ xs) (suc i) l = ap (λ ys. x ∷ ys) (take_whole xs i (omega arith))
