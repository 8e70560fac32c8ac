-- What a loop over a list has found so far.
use Rattle.std.proofs.Common.{ℕ, zero, suc, ◌≡◌, ◌+◌, ◌<◌, ◌≤◌, Bool, true, false, ◌||◌, List, [], ◌∷◌, ◌++◌, length, take, get_or, refl, sym, ap, ◌∙◌, arith}
use Rattle.std.specs.List.{list_any, AllByRecursion}
use Rattle.std.proofs.lemmas.List.{take_more, take_all}

pub or_false : (a : Bool) → (a || false) ≡ a
or_false true = refl
or_false false = refl

pub or_assoc : (a b c : Bool) → ((a || b) || c) ≡ (a || (b || c))
or_assoc true b c = refl
or_assoc false b c = refl

module _ {X : Type 0} where
  pub any_append : (test : X → Bool) (xs ys : List X) → list_any test (xs ++ ys) ≡ (list_any test xs || list_any test ys)
  any_append test [] ys = refl
  any_append test (x ∷ xs) ys = ap (λ b. test x || b) (any_append test xs ys) ∙ sym (or_assoc (test x) (list_any test xs) (list_any test ys))

  pub any_next : (test : X → Bool) (xs : List X) (i : ℕ) (d : X) → i < length xs → list_any test (take i xs) ≡ false → test (get_or xs i d) ≡ false
      → list_any test (take (i + 1) xs) ≡ false
  any_next test xs i d l before here =
      ap (list_any test) (take_more xs i d l) ∙ any_append test (take i xs) (get_or xs i d ∷ []) ∙ (λ k. before k || (here k || false))

  pub any_found : (test : X → Bool) (xs : List X) (i : ℕ) (d : X) → i < length xs → test (get_or xs i d) ≡ true → list_any test xs ≡ true
  any_found test [] i d l h = absurd (omega arith)
  any_found test (x ∷ xs) zero d l h = ap (λ b. b || list_any test xs) h
  any_found test (x ∷ xs) (suc i) d l h = ap (λ b. test x || b) (any_found test xs i d (omega arith) h) ∙ true_right (test x)
    where
      true_right : (b : Bool) → (b || true) ≡ true
      true_right true = refl
      true_right false = refl

  pub any_end : (test : X → Bool) (xs : List X) (n : ℕ) → length xs ≤ n → list_any test (take n xs) ≡ false → list_any test xs ≡ false
  any_end test xs n l h = ap (list_any test) (sym (take_all n xs l)) ∙ h

  pub all_at : (P : X → Type 0) (xs : List X) (i : ℕ) (d : X) → i < length xs → AllByRecursion P xs → P (get_or xs i d)
  all_at P [] i d l h = absurd (omega arith)
  all_at P (x ∷ xs) zero d l h = h.0
  all_at P (x ∷ xs) (suc i) d l h = all_at P xs i d (omega arith) h.1
