-- What setting an item makes of a list of which most items are missing.
use Rattle.std.proofs.Common.{ℕ, zero, suc, ◌≡◌, ◌<◌, ◌≤◌, ◌+◌, ◌⊎◌, inl, inr, List, [], ◌∷◌, ◌++◌, length, map, set, replicate, Option, Some, None, slice_get, get_or, refl, sym, ap, ◌∙◌, subst, arith, length-set}
use Rattle.std.specs.Prelude.{nat_eq, ◌≢◌, true, false}
use Rattle.std.proofs.lemmas.Bool.Decides.{nat_tests}
use Rattle.std.proofs.lemmas.List.{length-replicate}
use Rattle.ae_netlist.proofs.Gets.{get_pushed, get_set_other}
use Rattle.ae_order.specs.Sparses.{IsFilled, IsIndex, kept_item, present, sparse}

pub sparse_long : {A : Type 0} (n : ℕ) (ix : List (Option ℕ)) (kept : List A) → length (sparse n ix kept) ≡ n
sparse_long zero ix kept = refl
sparse_long (suc n) [] kept = ap suc (sparse_long n [] kept)
sparse_long (suc n) (k ∷ ks) kept = ap suc (sparse_long n ks kept)

pub sparse_none : {A : Type 0} (n : ℕ) (kept : List A) → sparse n [] kept ≡ replicate n None
sparse_none zero kept = refl
sparse_none (suc n) kept = ap (λ vs. None ∷ vs) (sparse_none n kept)

-- what no items are seen as
pub map_none : {A B : Type 0} (f : Option A → B) (n : ℕ) → map f (replicate n None) ≡ replicate n (f None)
map_none f zero = refl
map_none f (suc n) = ap (λ vs. f None ∷ vs) (map_none f n)

sparse_nones : {A : Type 0} (n : ℕ) (kept : List A) → sparse n (replicate n None) kept ≡ replicate n None
sparse_nones zero kept = refl
sparse_nones (suc n) kept = ap (λ vs. None ∷ vs) (sparse_nones n kept)

pub sparse_at : {A : Type 0} (n : ℕ) (ix : List (Option ℕ)) (kept : List A) (p : ℕ) → p < n
    → slice_get (sparse n ix kept) p ≡ Some (kept_item kept (get_or ix p None))
sparse_at zero ix kept p l = absurd (omega arith)
sparse_at (suc n) [] kept zero l = refl
sparse_at (suc n) [] kept (suc p) l = sparse_at n [] kept p (omega arith)
sparse_at (suc n) (k ∷ ks) kept zero l = refl
sparse_at (suc n) (k ∷ ks) kept (suc p) l = sparse_at n ks kept p (omega arith)

-- of an index that has been given all places
pub filled_same : {A : Type 0} (n : ℕ) (old new : List (Option ℕ)) (kept : List A) → IsFilled n old new → sparse n new kept ≡ sparse n old kept
filled_same n old new kept (inl e) = ap (λ ix. sparse n ix kept) e
filled_same n old new kept (inr e) =
    ap (λ ix. sparse n ix kept) e.1 ∙ sparse_nones n kept ∙ sym (sparse_none n kept) ∙ ap (λ ix. sparse n ix kept) (sym e.0)

no_item : (n p k : ℕ) → slice_get (replicate {A = Option ℕ} n None) p ≡ Some (Some k) → ⊥
no_item zero p k h = cc
no_item (suc n) zero k h = cc
no_item (suc n) (suc p) k h = no_item n p k h

nones_index : (n items : ℕ) → items ≤ 0 → IsIndex n (replicate n None) items
nones_index n items l = record {
  long = inr (length-replicate n None);
  below = λ p k h. absurd (no_item n p k h);
  apart = λ p q k h. absurd (no_item n p k h);
  few = omega arith;
}

pub filled_index : (n : ℕ) (old new : List (Option ℕ)) (items : ℕ) → IsFilled n old new → IsIndex n old items → IsIndex n new items
filled_index n old new items (inl e) ok = subst (λ ix. IsIndex n ix items) (sym e) ok
filled_index n old new items (inr e) ok =
    let few : items ≤ 0 = subst (λ ix. items ≤ present ix) e.0 ok.few in
    subst (λ ix. IsIndex n ix items) (sym e.1) (nones_index n items few)

-- where a place is missing
pub present_less : (ix : List (Option ℕ)) (p : ℕ) → slice_get ix p ≡ Some None → present ix < length ix
present_less [] p h = cc
present_less (None ∷ ks) p h = let l = present_most ks in omega arith
  where
    present_most : (ks : List (Option ℕ)) → present ks ≤ length ks
    present_most [] = omega arith
    present_most (None ∷ ks) = let l = present_most ks in omega arith
    present_most (Some k ∷ ks) = let l = present_most ks in omega arith
present_less (Some k ∷ ks) zero h = cc
present_less (Some k ∷ ks) (suc p) h = let l = present_less ks p h in omega arith

present_set : (ix : List (Option ℕ)) (p k : ℕ) → slice_get ix p ≡ Some None → present (set ix p (Some k)) ≡ suc (present ix)
present_set [] p k h = cc
present_set (None ∷ ks) zero k h = refl
present_set (Some j ∷ ks) zero k h = cc
present_set (None ∷ ks) (suc p) k h = present_set ks p k h
present_set (Some j ∷ ks) (suc p) k h = ap suc (present_set ks p k h)

-- with an item behind the others
pushed_left : {A : Type 0} (kept : List A) (x : A) (k : ℕ) → k < length kept → slice_get (kept ++ x ∷ []) k ≡ slice_get kept k
pushed_left [] x k l = absurd (omega arith)
pushed_left (y ∷ kept) x zero l = refl
pushed_left (y ∷ kept) x (suc k) l = pushed_left kept x k (omega arith)

pushed_rest : {A : Type 0} (n : ℕ) (ix : List (Option ℕ)) (kept : List A) (x : A)
    → ((q k : ℕ) → slice_get ix q ≡ Some (Some k) → k < length kept) → sparse n ix (kept ++ x ∷ []) ≡ sparse n ix kept
pushed_rest zero ix kept x below = refl
pushed_rest (suc n) [] kept x below = ap (λ vs. None ∷ vs) (pushed_rest n [] kept x (λ q k h. below q k h))
pushed_rest (suc n) (None ∷ ks) kept x below = ap (λ vs. None ∷ vs) (pushed_rest n ks kept x (λ q k h. below (suc q) k h))
pushed_rest (suc n) (Some k ∷ ks) kept x below =
    ap (λ v. v ∷ sparse n ks (kept ++ x ∷ [])) (pushed_left kept x k (below 0 k refl))
    ∙ ap (λ vs. slice_get kept k ∷ vs) (pushed_rest n ks kept x (λ q k h. below (suc q) k h))

pub pushed : {A : Type 0} (n : ℕ) (ix : List (Option ℕ)) (kept : List A) (x : A) (p : ℕ)
    → ((q k : ℕ) → slice_get ix q ≡ Some (Some k) → k < length kept) → p < n → p < length ix
    → sparse n (set ix p (Some (length kept))) (kept ++ x ∷ []) ≡ set (sparse n ix kept) p (Some x)
pushed zero ix kept x p below l m = absurd (omega arith)
pushed (suc n) [] kept x p below l m = absurd (omega arith)
pushed (suc n) (k ∷ ks) kept x zero below l m =
    ap (λ v. v ∷ sparse n ks (kept ++ x ∷ [])) (get_pushed kept x) ∙ ap (λ vs. Some x ∷ vs) (pushed_rest n ks kept x (λ q k h. below (suc q) k h))
pushed (suc n) (None ∷ ks) kept x (suc p) below l m =
    ap (λ vs. None ∷ vs) (pushed n ks kept x p (λ q k h. below (suc q) k h) (omega arith) (omega arith))
pushed (suc n) (Some k ∷ ks) kept x (suc p) below l m =
    ap (λ v. v ∷ sparse n (set ks p (Some (length kept))) (kept ++ x ∷ [])) (pushed_left kept x k (below 0 k refl))
    ∙ ap (λ vs. slice_get kept k ∷ vs) (pushed n ks kept x p (λ q k h. below (suc q) k h) (omega arith) (omega arith))

-- what stands at a place after one was set: the same as before, or this was the place
set_cases : {X : Type 0} (xs : List X) (p q : ℕ) (y z : X) → slice_get (set xs p y) q ≡ Some z → ((q ≡ p) × (y ≡ z)) ⊎ (slice_get xs q ≡ Some z)
set_cases [] p q y z h = cc
set_cases (x ∷ xs) zero zero y z h = inl (refl, cc)
set_cases (x ∷ xs) zero (suc q) y z h = inr h
set_cases (x ∷ xs) (suc p) zero y z h = inr h
set_cases (x ∷ xs) (suc p) (suc q) y z h = elim (set_cases xs p q y z h) [ inl w ↦ inl (ap suc w.0, w.1) | inr w ↦ inr w ]

some_inj : {X : Type 0} {x y : X} → Some x ≡ Some y → x ≡ y
some_inj h = cc

pub pushed_index : (n : ℕ) (ix : List (Option ℕ)) (items p : ℕ) → IsIndex n ix items → length ix ≡ n → slice_get ix p ≡ Some None
    → IsIndex n (set ix p (Some items)) (items + 1)
pushed_index n ix items p ok long none = record {
  long = inr (length-set ix p (Some items) ∙ long);
  below = λ q k h. elim (set_cases ix p q (Some items) (Some k) h) [
    | inl w ↦ let e : items ≡ k = some_inj w.1 in omega arith
    | inr w ↦ let l = ok.below q k w in omega arith
  ];
  apart = λ q r k h g. elim (set_cases ix p q (Some items) (Some k) h) [
    | inl w ↦ elim (set_cases ix p r (Some items) (Some k) g) [
      | inl v ↦ w.0 ∙ sym v.0
      | inr v ↦ let e : items ≡ k = some_inj w.1 in let l = ok.below r k v in absurd (omega arith)
    ]
    | inr w ↦ elim (set_cases ix p r (Some items) (Some k) g) [
      | inl v ↦ let e : items ≡ k = some_inj v.1 in let l = ok.below q k w in absurd (omega arith)
      | inr v ↦ ok.apart q r k w v
    ]
  ];
  few = let e = present_set ix p items none in let l = ok.few in omega arith;
}

-- with an item instead of another
set_there : {A : Type 0} (kept : List A) (k : ℕ) (x : A) → k < length kept → slice_get (set kept k x) k ≡ Some x
set_there [] k x l = absurd (omega arith)
set_there (y ∷ kept) zero x l = refl
set_there (y ∷ kept) (suc k) x l = set_there kept k x (omega arith)

replaced_rest : {A : Type 0} (n : ℕ) (ix : List (Option ℕ)) (kept : List A) (k : ℕ) (x : A) → ((q : ℕ) → slice_get ix q ≡ Some (Some k) → ⊥)
    → sparse n ix (set kept k x) ≡ sparse n ix kept
replaced_rest zero ix kept k x free = refl
replaced_rest (suc n) [] kept k x free = ap (λ vs. None ∷ vs) (replaced_rest n [] kept k x (λ q h. free q h))
replaced_rest (suc n) (None ∷ ks) kept k x free = ap (λ vs. None ∷ vs) (replaced_rest n ks kept k x (λ q h. free (suc q) h))
replaced_rest (suc n) (Some j ∷ ks) kept k x free =
    ap (λ v. v ∷ sparse n ks (set kept k x)) (get_set_other kept k j x (λ e. free 0 (ap (λ i. Some (Some i)) e)))
    ∙ ap (λ vs. slice_get kept j ∷ vs) (replaced_rest n ks kept k x (λ q h. free (suc q) h))

pub replaced : {A : Type 0} (n : ℕ) (ix : List (Option ℕ)) (kept : List A) (k : ℕ) (x : A) (p : ℕ) → p < n → k < length kept
    → slice_get ix p ≡ Some (Some k) → ((q : ℕ) → slice_get ix q ≡ Some (Some k) → q ≡ p)
    → sparse n ix (set kept k x) ≡ set (sparse n ix kept) p (Some x)
replaced zero ix kept k x p l m h only = absurd (omega arith)
replaced (suc n) [] kept k x p l m h only = cc
replaced (suc n) (j ∷ ks) kept k x zero l m h only =
    let e : j ≡ Some k = some_inj h in
    ap (λ i. kept_item (set kept k x) i ∷ sparse n ks (set kept k x)) e ∙ ap (λ v. v ∷ sparse n ks (set kept k x)) (set_there kept k x m)
    ∙ ap (λ vs. Some x ∷ vs) (replaced_rest n ks kept k x (λ q g. let e : suc q ≡ 0 = only (suc q) g in absurd (omega arith)))
replaced (suc n) (None ∷ ks) kept k x (suc p) l m h only =
    ap (λ vs. None ∷ vs) (replaced n ks kept k x p (omega arith) m h (λ q g. let e : suc q ≡ suc p = only (suc q) g in omega arith))
replaced (suc n) (Some j ∷ ks) kept k x (suc p) l m h only =
    ap (λ v. v ∷ sparse n ks (set kept k x))
    (get_set_other kept k j x (λ e. let z : 0 ≡ suc p = only 0 (ap (λ i. Some (Some i)) e) in absurd (omega arith)))
    ∙ ap (λ vs. slice_get kept j ∷ vs)
    (replaced n ks kept k x p (omega arith) m h (λ q g. let e : suc q ≡ suc p = only (suc q) g in omega arith))

pub none_there : {X : Type 0} (xs : List X) (m : ℕ) → m ≡ length xs → nat_eq m 0 ≡ true → xs ≡ []
none_there [] m e h = refl
none_there (x ∷ xs) m e h = let z : m ≡ 0 = grind (arith, nat_tests) in absurd (omega arith)

pub all_there : {X : Type 0} (n : ℕ) (xs : List X) (m : ℕ) → (xs ≡ []) ⊎ (length xs ≡ n) → m ≡ length xs → nat_eq m 0 ≡ false → length xs ≡ n
all_there n xs m (inl e) l h = let z : m ≢ 0 = grind (arith, nat_tests) in absurd (z (l ∙ ap length e))
all_there n xs m (inr e) l h = e

module _ {A : Type 0} (n : ℕ) (ix : List (Option ℕ)) (kept : List A) (vs : List (Option A)) (view : sparse n ix kept ≡ vs) (p : ℕ)
    (inside : p < length vs) where
  pub place_within : p < n
  place_within = let l = sparse_long n ix kept in let e = ap length view in omega arith

  pub none_at : ix ≡ [] → slice_get vs p ≡ Some None
  none_at e =
      ap (λ us. slice_get us p) (sym view) ∙ sparse_at n ix kept p place_within ∙ ap (λ ks. Some (kept_item kept (get_or ks p None))) e

  pub item_at : (k : Option ℕ) → slice_get ix p ≡ Some k → slice_get vs p ≡ Some (kept_item kept k)
  item_at k h =
      ap (λ us. slice_get us p) (sym view) ∙ sparse_at n ix kept p place_within ∙ ap (λ j. Some (kept_item kept j)) (get_or_is ix p k h)
    where
      get_or_is : (ks : List (Option ℕ)) (q : ℕ) (k : Option ℕ) → slice_get ks q ≡ Some k → get_or ks q None ≡ k
      get_or_is [] q k h = cc
      get_or_is (j ∷ ks) zero k h = some_inj h
      get_or_is (j ∷ ks) (suc q) k h = get_or_is ks q k h
