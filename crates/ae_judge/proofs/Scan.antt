-- A walk over a list that knows the names before each element.
use Rattle.std.proofs.Common.{ℕ, zero, suc, ◌≡◌, ◌+◌, ◌<◌, Bool, true, false, List, [], ◌∷◌, ◌++◌, take, slice_get, Option, Some, None, is_some, if◌then◌else◌, refl, sym, ap, ◌∙◌, subst, arith, append_assoc, inl, inr}
use Rattle.std.specs.Prelude.{flat_map, option_map}
use Rattle.std.proofs.lemmas.List.{append-nil}
use Rattle.std.proofs.lemmas.Bool.{cases_Bool, cond-true, cond-false}
use Rattle.ae_judge.specs.Judging.{IsFirstOf}

pub clash : (b : Bool) → b ≡ true → b ≡ false → ⊥
clash b h g = let e : true ≡ false = sym h ∙ g in cc

module _ {X : Type 0} (test : ℕ → List (List ℕ) → X → Bool) (names : X → List (List ℕ)) where
  -- the first element that passes, with its number
  abbrev pub scan : ℕ → List (List ℕ) → List X → Option (ℕ × X)
  scan k given [] = None
  scan k given (x ∷ xs) = if test k given x then Some (k, x) else scan (k + 1) (given ++ names x) xs

  abbrev pub Clear : ℕ → List (List ℕ) → List X → ℕ → Type 0
  Clear k given xs j = (x : X) → slice_get xs j ≡ Some x → test (j + k) (given ++ flat_map names (take j xs)) x ≡ false

  abbrev pub IsScan : ℕ → List (List ℕ) → List X → Option (ℕ × X) → Type 0
  IsScan k given xs None = (j : ℕ) → Clear k given xs j
  IsScan k given xs (Some r) =
      (j : ℕ) × (r.0 ≡ j + k) × (slice_get xs j ≡ Some r.1) × (test r.0 (given ++ flat_map names (take j xs)) r.1 ≡ true)
      × ((i : ℕ) → i < j → Clear k given xs i)

  clear_here : (k : ℕ) (given : List (List ℕ)) (x : X) (xs : List X) → test k given x ≡ false → Clear k given (x ∷ xs) 0
  clear_here k given x xs miss y e =
      let s : y ≡ x = (let t : Some x ≡ Some y = e in cc) in
      let n : 0 + k ≡ k = omega arith in
      (λ i. test (n i) (append-nil given i) (s i)) ∙ miss

  clear_later : (k : ℕ) (given : List (List ℕ)) (x : X) (xs : List X) (j : ℕ) → Clear (k + 1) (given ++ names x) xs j → Clear k given (x ∷ xs) (suc j)
  clear_later k given x xs j h y e =
      let n : suc j + k ≡ j + (k + 1) = omega arith in
      (λ i. test (n i) (sym (append_assoc given (names x) (flat_map names (take j xs))) i) y) ∙ h y e

  later : (k : ℕ) (given : List (List ℕ)) (x : X) (xs : List X) → test k given x ≡ false → (o : Option (ℕ × X)) → IsScan (k + 1) (given ++ names x) xs o
      → IsScan k given (x ∷ xs) o
  later k given x xs miss None h = at
    where
      at : (j : ℕ) → Clear k given (x ∷ xs) j
      at zero = clear_here k given x xs miss
      at (suc j) = clear_later k given x xs j (h j)
  later k given x xs miss (Some r) h = (
    suc h.0,
    omega (arith, h.1),
    h.2,
    ap (λ g. test r.0 g r.1) (sym (append_assoc given (names x) (flat_map names (take h.0 xs)))) ∙ h.3,
    before,
  )
    where
      before : (i : ℕ) → i < suc h.0 → Clear k given (x ∷ xs) i
      before zero l = clear_here k given x xs miss
      before (suc i) l = clear_later k given x xs i (h.4 i (omega arith))

  pub scan_is : (k : ℕ) (given : List (List ℕ)) (xs : List X) → IsScan k given xs (scan k given xs)
  scan_is k given [] = λ j x e. absurd (let n : None ≡ Some x = e in cc)
  scan_is k given (x ∷ xs) = elim (cases_Bool (test k given x)) [
    | inl hit ↦
        subst (IsScan k given (x ∷ xs)) (sym (cond-true _ (Some (k, x)) (scan (k + 1) (given ++ names x) xs) hit))
        (0, omega arith, refl, ap (λ g. test k g x) (append-nil given) ∙ hit, λ i l. absurd (omega arith))
    | inr miss ↦
        subst (IsScan k given (x ∷ xs)) (sym (cond-false _ (Some (k, x)) (scan (k + 1) (given ++ names x) xs) miss))
        (later k given x xs miss (scan (k + 1) (given ++ names x) xs) (scan_is (k + 1) (given ++ names x) xs))
  ]

  -- the elements that pass, by their numbers
  abbrev pub Passing : ℕ → List (List ℕ) → List X → ℕ → Type 0
  Passing k given xs r = (j : ℕ) × (x : X) × (r ≡ j + k) × (slice_get xs j ≡ Some x) × (test r (given ++ flat_map names (take j xs)) x ≡ true)

  passing_not_clear : (k : ℕ) (given : List (List ℕ)) (xs : List X) (r : ℕ) → (p : Passing k given xs r) → Clear k given xs p.0 → ⊥
  passing_not_clear k given xs r p c = clash _ (ap (λ n. test n (given ++ flat_map names (take p.0 xs)) p.1) (sym p.2) ∙ p.4) (c p.1 p.3)

  first_of : (k : ℕ) (given : List (List ℕ)) (xs : List X) (o : Option (ℕ × X)) → IsScan k given xs o → IsFirstOf (Passing k given xs) (option_map (λ r. r.0) o)
  first_of k given xs None h = λ r p. passing_not_clear k given xs r p (h p.0)
  first_of k given xs (Some r) h = (
    (h.0, r.1, h.1, h.2, h.3),
    λ n l p. passing_not_clear k given xs n p (h.4 p.0 (omega (arith, h.1, p.2))),
  )

  pub scan_first : (k : ℕ) (given : List (List ℕ)) (xs : List X) → IsFirstOf (Passing k given xs) (option_map (λ r. r.0) (scan k given xs))
  scan_first k given xs = first_of k given xs (scan k given xs) (scan_is k given xs)

  -- whether one passes
  pub scan_some : (k : ℕ) (given : List (List ℕ)) (xs : List X) → is_some (scan k given xs) ≡ true → (r : ℕ) × Passing k given xs r
  scan_some k given xs h = by (scan k given xs) (scan_is k given xs) h
    where
      by : (o : Option (ℕ × X)) → IsScan k given xs o → is_some o ≡ true → (r : ℕ) × Passing k given xs r
      by None s h = absurd (let e : false ≡ true = h in cc)
      by (Some r) s h = (r.0, (s.0, r.1, s.1, s.2, s.3))

  pub some_scan : (k : ℕ) (given : List (List ℕ)) (xs : List X) (r : ℕ) → Passing k given xs r → is_some (scan k given xs) ≡ true
  some_scan k given xs r p = by (scan k given xs) (scan_is k given xs)
    where
      by : (o : Option (ℕ × X)) → IsScan k given xs o → is_some o ≡ true
      by None s = absurd (passing_not_clear k given xs r p (s p.0))
      by (Some q) s = refl

pub first_map : {P Q : ℕ → Type 0} → ((k : ℕ) → P k → Q k) → ((k : ℕ) → Q k → P k) → (o : Option ℕ) → IsFirstOf P o → IsFirstOf Q o
first_map to from None h = λ k q. h k (from k q)
first_map to from (Some k) h = (to k h.0, λ j l q. h.1 j l (from j q))
