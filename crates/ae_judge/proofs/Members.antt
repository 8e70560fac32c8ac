-- What is in a list, and where.
use Rattle.std.proofs.Common.{ℕ, zero, suc, ◌≡◌, ◌+◌, ◌≤◌, ◌⊎◌, inl, inr, Bool, true, false, List, [], ◌∷◌, ◌++◌, length, Some, None, slice_get, arith, refl, sym, ap, ◌∙◌, subst}
use Rattle.std.specs.Prelude.{map, flat_map, bytes_eq, find, if◌then◌else◌}
use Rattle.std.specs.List.{list_any}
use Rattle.std.proofs.lemmas.Bool.{cases_Bool, cond-true, cond-false, both_ways, or_parts}
use Rattle.std.proofs.lemmas.Slice.Eq.{bytes_eq-Decides}
use Rattle.ae_judge.specs.Names.{Among, is_named}

pub same_bytes : (xs ys : List ℕ) → bytes_eq xs ys ≡ true → xs ≡ ys
same_bytes xs ys h = (bytes_eq-Decides xs ys).0 h

pub bytes_same : (xs ys : List ℕ) → xs ≡ ys → bytes_eq xs ys ≡ true
bytes_same xs ys h = (bytes_eq-Decides xs ys).1 h

pub other_bytes : (xs ys : List ℕ) → (xs ≡ ys → ⊥) → bytes_eq xs ys ≡ false
other_bytes xs ys h = elim (cases_Bool (bytes_eq xs ys)) [ inl e ↦ absurd (h (same_bytes xs ys e)) | inr e ↦ e ]

pub among_left : {X : Type 0} (x : X) (xs ys : List X) → Among x xs → Among x (xs ++ ys)
among_left x [] ys h = absurd h
among_left x (y ∷ xs) ys h = elim h [ inl e ↦ inl e | inr later ↦ inr (among_left x xs ys later) ]

pub among_right : {X : Type 0} (x : X) (xs ys : List X) → Among x ys → Among x (xs ++ ys)
among_right x [] ys h = h
among_right x (y ∷ xs) ys h = inr (among_right x xs ys h)

pub among_split : {X : Type 0} (x : X) (xs ys : List X) → Among x (xs ++ ys) → Among x xs ⊎ Among x ys
among_split x [] ys h = inr h
among_split x (y ∷ xs) ys h = elim h [
  | inl e ↦ inl (inl e)
  | inr later ↦ elim (among_split x xs ys later) [ inl a ↦ inl (inr a) | inr b ↦ inr b ]
]

pub among_at : {X : Type 0} (x : X) (xs : List X) → Among x xs → (k : ℕ) × (slice_get xs k ≡ Some x)
among_at x [] h = absurd h
among_at x (y ∷ xs) h = elim h [ inl e ↦ (0, ap Some e) | inr later ↦ let r = among_at x xs later in (suc r.0, r.1) ]

pub among_from : {X : Type 0} (x : X) (xs : List X) (k : ℕ) → slice_get xs k ≡ Some x → Among x xs
among_from x [] k h = absurd (let e : None ≡ Some x = h in cc)
among_from x (y ∷ xs) zero h = inl (let e : Some y ≡ Some x = h in cc)
among_from x (y ∷ xs) (suc k) h = inr (among_from x xs k h)

pub among_map : {X Y : Type 0} (f : X → Y) (x : X) (xs : List X) → Among x xs → Among (f x) (map f xs)
among_map f x [] h = h
among_map f x (y ∷ xs) h = elim h [ inl e ↦ inl (ap f e) | inr later ↦ inr (among_map f x xs later) ]

pub among_unmap : {X Y : Type 0} (f : X → Y) (y : Y) (xs : List X) → Among y (map f xs) → (x : X) × Among x xs × (f x ≡ y)
among_unmap f y [] h = absurd h
among_unmap f y (x ∷ xs) h = elim h [ inl e ↦ (x, inl refl, e) | inr later ↦ let r = among_unmap f y xs later in (r.0, inr r.1, r.2) ]

pub among_flat : {X Y : Type 0} (f : X → List Y) (y : Y) (xs : List X) (k : ℕ) (x : X) → slice_get xs k ≡ Some x → Among y (f x) → Among y (flat_map f xs)
among_flat f y [] k x h a = absurd (let e : None ≡ Some x = h in cc)
among_flat f y (z ∷ xs) zero x h a =
    among_left y (f z) (flat_map f xs) (subst (λ u. Among y (f u)) (let e : x ≡ z = (let s : Some z ≡ Some x = h in cc) in e) a)
among_flat f y (z ∷ xs) (suc k) x h a = among_right y (f z) (flat_map f xs) (among_flat f y xs k x h a)

pub among_unflat : {X Y : Type 0} (f : X → List Y) (y : Y) (xs : List X) → Among y (flat_map f xs) → (k : ℕ) × (x : X) × (slice_get xs k ≡ Some x)
    × Among y (f x)
among_unflat f y [] h = absurd h
among_unflat f y (x ∷ xs) h = elim (among_split y (f x) (flat_map f xs) h) [
  | inl here ↦ (0, x, refl, here)
  | inr later ↦ let r = among_unflat f y xs later in (suc r.0, r.1, r.2, r.3)
]

pub among_or_not : (n : List ℕ) (ns : List (List ℕ)) → Among n ns ⊎ (Among n ns → ⊥)
among_or_not n [] = inr (λ h. h)
among_or_not n (k ∷ ns) = elim (cases_Bool (bytes_eq k n)) [
  | inl e ↦ inl (inl (same_bytes k n e))
  | inr e ↦ elim (among_or_not n ns) [
    | inl a ↦ inl (inr a)
    | inr never ↦ inr (λ h. elim h [ inl s ↦ both_ways _ e (bytes_same k n s) | inr a ↦ never a ])
  ]
]

-- where an element of a list has a property that each element has or has not
pub some_or_not : {X : Type 0} (P : X → Type 0) → ((x : X) → P x ⊎ (P x → ⊥)) → (xs : List X) → ((x : X) × Among x xs × P x) ⊎ ((x : X) × Among x xs × P x → ⊥)
some_or_not P test [] = inr (λ h. h.1)
some_or_not P test (y ∷ xs) = elim (test y) [
  | inl p ↦ inl (y, inl refl, p)
  | inr never ↦ elim (some_or_not P test xs) [
    | inl r ↦ inl (r.0, inr r.1, r.2)
    | inr none ↦ inr (λ h. elim h.1 [ inl e ↦ never (subst P (sym e) h.2) | inr later ↦ none (h.0, later, h.2) ])
  ]
]

-- the first element that passes
pub find_some : {X : Type 0} (test : X → Bool) (xs : List X) (x : X) → find test xs ≡ Some x → Among x xs × (test x ≡ true)
find_some test [] x h = absurd (let e : None ≡ Some x = h in cc)
find_some test (y ∷ xs) x h = elim (cases_Bool (test y)) [
  | inl e ↦ let s : y ≡ x = (let t : Some y ≡ Some x = sym (cond-true _ (Some y) (find test xs) e) ∙ h in cc) in (inl s, subst (λ u. test u ≡ true) s e)
  | inr e ↦ let r = find_some test xs x (sym (cond-false _ (Some y) (find test xs) e) ∙ h) in (inr r.0, r.1)
]

pub find_none : {X : Type 0} (test : X → Bool) (xs : List X) (x : X) → find test xs ≡ None → Among x xs → test x ≡ false
find_none test [] x h a = absurd a
find_none test (y ∷ xs) x h a = elim (cases_Bool (test y)) [
  | inl e ↦ absurd (let t : Some y ≡ None = sym (cond-true _ (Some y) (find test xs) e) ∙ h in cc)
  | inr e ↦ elim a [ inl s ↦ subst (λ u. test u ≡ false) s e | inr later ↦ find_none test xs x (sym (cond-false _ (Some y) (find test xs) e) ∙ h) later ]
]

-- the one element that passes is found
pub find_only : {X : Type 0} (test : X → Bool) (xs : List X) (x : X) → Among x xs → test x ≡ true → ((y : X) → Among y xs → test y ≡ true → y ≡ x)
    → find test xs ≡ Some x
find_only test [] x a p only = absurd a
find_only test (y ∷ xs) x a p only = elim (cases_Bool (test y)) [
  | inl e ↦ cond-true _ (Some y) (find test xs) e ∙ ap Some (only y (inl refl) e)
  | inr e ↦ cond-false _ (Some y) (find test xs) e ∙ elim a [
    | inl s ↦ absurd (both_ways _ e (subst (λ u. test u ≡ true) (sym s) p))
    | inr later ↦ find_only test xs x later p (λ z b t. only z (inr b) t)
  ]
]

-- a list without a name
abbrev pub without : List ℕ → List (List ℕ) → List (List ℕ)
without n [] = []
without n (k ∷ ks) = if bytes_eq k n then without n ks else k ∷ without n ks

pub among_without : (n x : List ℕ) (ks : List (List ℕ)) → Among x ks → (x ≡ n → ⊥) → Among x (without n ks)
among_without n x [] a other = a
among_without n x (k ∷ ks) a other = elim (cases_Bool (bytes_eq k n)) [
  | inl e ↦ subst (Among x) (sym (cond-true _ (without n ks) (k ∷ without n ks) e))
      (elim a [ inl s ↦ absurd (other (sym s ∙ same_bytes k n e)) | inr later ↦ among_without n x ks later other ])
  | inr e ↦ subst (Among x) (sym (cond-false _ (without n ks) (k ∷ without n ks) e))
      (elim a [ inl s ↦ inl s | inr later ↦ inr (among_without n x ks later other) ])
]

without_length : (n : List ℕ) (ks : List (List ℕ)) → length (without n ks) ≤ length ks
without_length n [] = omega arith
without_length n (k ∷ ks) = elim (cases_Bool (bytes_eq k n)) [
  | inl e ↦ let r = without_length n ks in subst (λ l. length l ≤ suc (length ks)) (sym (cond-true _ (without n ks) (k ∷ without n ks) e)) (omega arith)
  | inr e ↦ let r = without_length n ks in subst (λ l. length l ≤ suc (length ks)) (sym (cond-false _ (without n ks) (k ∷ without n ks) e)) (omega arith)
]

pub without_shorter : (n : List ℕ) (ks : List (List ℕ)) → Among n ks → length (without n ks) + 1 ≤ length ks
without_shorter n [] a = absurd a
without_shorter n (k ∷ ks) a = elim (cases_Bool (bytes_eq k n)) [
  | inl e ↦ let r = without_length n ks in subst (λ l. length l + 1 ≤ suc (length ks)) (sym (cond-true _ (without n ks) (k ∷ without n ks) e)) (omega arith)
  | inr e ↦ let r : length (without n ks) + 1 ≤ length ks = without_shorter n ks
      (elim a [ inl s ↦ absurd (both_ways _ e (bytes_same k n s)) | inr later ↦ later ]) in
      subst (λ l. length l + 1 ≤ suc (length ks)) (sym (cond-false _ (without n ks) (k ∷ without n ks) e)) (omega arith)
]

-- no element passes where none of the list does
pub none_passes : {X : Type 0} (test : X → Bool) (xs : List X) (x : X) → list_any test xs ≡ false → Among x xs → test x ≡ false
none_passes test [] x h a = absurd a
none_passes test (y ∷ xs) x h a =
    let p = or_parts (test y) (list_any test xs) h in
    elim a [ inl e ↦ subst (λ u. test u ≡ false) e p.0 | inr later ↦ none_passes test xs x p.1 later ]

-- without a clock no name is it
pub none_named : (ns : List (List ℕ)) → list_any (λ n. is_named n None) ns ≡ false
none_named [] = refl
none_named (n ∷ ns) = none_named ns
