-- Which items use a name that is not declared before.
use Rattle.std.proofs.Common.{ℕ, suc, ◌≡◌, ◌+◌, ◌<◌, ◌≤◌, Bool, true, false, not, ◌&&◌, ◌||◌, List, [], ◌∷◌, ◌++◌, take, slice_get, map, Option, Some, None, is_some, if◌then◌else◌, refl, sym, ap, ◌∙◌, subst, arith, inl, inr}
use Rattle.std.specs.Prelude.{flat_map, option_map, bytes_eq, find, nat_lt}
use Rattle.std.specs.List.{list_any}
use Rattle.std.proofs.lemmas.Bool.{cases_Bool, cond-true, cond-false}
use Rattle.std.proofs.lemmas.Bool.Decides.{nat_tests}
use Rattle.ae_vmodule.specs.ModuleTree.{NetTree, DriveTree, ItemTree, nets, assigns, always, ModuleTree}
use Rattle.ae_judge.specs.Names.{Among, net_named, passes, names_in, target_of, drive_reads, stmt_reads, stmt_targets}
use Rattle.ae_judge.specs.Shape.{IsShapely}
use Rattle.ae_judge.specs.Places.{Entry, with_place, HasNames}
use Rattle.ae_judge.specs.Faults.{IsDeclaredBefore, UsesUnknown, HasUnknown}
use Rattle.ae_judge.specs.Judging.{IsFirstOf, first_from, is_declared_before, is_unknown, drives_unknown, uses_unknown}
use Rattle.ae_judge.proofs.Members.{same_bytes, bytes_same, among_left, among_right, among_split, among_at, find_some, find_none}
use Rattle.ae_judge.proofs.PlaceLemmas.{names_more}
use Rattle.ae_judge.proofs.Scan.{clash, scan, Passing, scan_first, scan_some, some_scan, first_map}

-- lists

pub any_among : {X : Type 0} (test : X → Bool) (xs : List X) → list_any test xs ≡ true → (x : X) × Among x xs × (test x ≡ true)
any_among test [] h = absurd (let e : false ≡ true = h in cc)
any_among test (x ∷ xs) h = elim (cases_Bool (test x)) [
  | inl e ↦ (x, inl refl, e)
  | inr e ↦ let r = any_among test xs (sym (ap (λ b. b || list_any test xs) e) ∙ h) in (r.0, inr r.1, r.2)
]

or_true : (b : Bool) → (b || true) ≡ true
or_true true = refl
or_true false = refl

pub among_any : {X : Type 0} (test : X → Bool) (xs : List X) (x : X) → Among x xs → test x ≡ true → list_any test xs ≡ true
among_any test [] x a h = absurd a
among_any test (y ∷ xs) x a h = elim a [
  | inl s ↦ ap (λ b. b || list_any test xs) (ap test s ∙ h)
  | inr later ↦ ap (λ b. test y || b) (among_any test xs x later h) ∙ or_true (test y)
]

pub any_same : {X : Type 0} (f g : X → Bool) (xs : List X) → ((x : X) → f x ≡ g x) → list_any f xs ≡ list_any g xs
any_same f g [] h = refl
any_same f g (x ∷ xs) h = λ i. h x i || any_same f g xs h i

-- a name is in a list
abbrev pub is_in : List (List ℕ) → List ℕ → Bool
is_in ns n = list_any (bytes_eq n) ns

pub in_among : (ns : List (List ℕ)) (n : List ℕ) → is_in ns n ≡ true → Among n ns
in_among ns n h = let r = any_among (bytes_eq n) ns h in subst (λ x. Among x ns) (sym (same_bytes n r.0 r.2)) r.1

pub among_in : (ns : List (List ℕ)) (n : List ℕ) → Among n ns → is_in ns n ≡ true
among_in ns n a = among_any (bytes_eq n) ns n a (bytes_same n n refl)

pub not_in : (ns : List (List ℕ)) (n : List ℕ) → (Among n ns → ⊥) → is_in ns n ≡ false
not_in ns n h = elim (cases_Bool (is_in ns n)) [ inl e ↦ absurd (h (in_among ns n e)) | inr e ↦ e ]

pub no_names : HasNames [] []
no_names n = refl

pub first_is_scan : {X : Type 0} (test : ℕ → X → Bool) (k : ℕ) (given : List (List ℕ)) (xs : List X)
    → first_from test k xs ≡ option_map (λ r. r.0) (scan (λ k g x. test k x) (λ x. []) k given xs)
first_is_scan test k given [] = refl
first_is_scan test k given (x ∷ xs) = by (test k x) (first_is_scan test (k + 1) (given ++ []) xs)
  where
    by : (b : Bool) → first_from test (k + 1) xs ≡ option_map (λ r. r.0) (scan (λ k g x. test k x) (λ x. []) (k + 1) (given ++ []) xs)
        → (if b then Some k else first_from test (k + 1) xs) ≡ option_map (λ r. r.0)
        (if b then Some (k, x) else scan (λ k g x. test k x) (λ x. []) (k + 1) (given ++ []) xs)
    by true h = refl
    by false h = h

-- what passes, without what stands before
abbrev pub Passes : {X : Type 0} → (ℕ → X → Bool) → ℕ → List X → ℕ → Type 0
Passes test k xs r = Passing (λ k g x. test k x) (λ x. []) k [] xs r

pub first_passes : {X : Type 0} (test : ℕ → X → Bool) (k : ℕ) (xs : List X) → IsFirstOf (Passes test k xs) (first_from test k xs)
first_passes test k xs = subst (IsFirstOf (Passes test k xs)) (sym (first_is_scan test k [] xs)) (scan_first (λ k g x. test k x) (λ x. []) k [] xs)

-- declarations

pub find_before : {X : Type 0} (test : X → Bool) (xs : List X) (x y : X) → find test xs ≡ Some y → Among x xs → test x ≡ true → (p : ℕ) × (q : ℕ)
    × (slice_get xs p ≡ Some y) × (slice_get xs q ≡ Some x) × (p ≤ q)
find_before test [] x y f a h = absurd a
find_before test (z ∷ zs) x y f a h = elim (cases_Bool (test z)) [
  | inl e ↦
      let s : Some z ≡ Some y = sym (cond-true _ (Some z) (find test zs) e) ∙ f in
      let at = among_at x (z ∷ zs) a in
      (0, at.0, s, at.1, omega arith)
  | inr e ↦
      let g : find test zs ≡ Some y = sym (cond-false _ (Some z) (find test zs) e) ∙ f in
      elim a [
        | inl s ↦ absurd (clash _ (ap test s ∙ h) e)
        | inr deep ↦ let r = find_before test zs x y g deep h in (suc r.0, suc r.1, r.2, r.3, omega (arith, r.4))
      ]
]

module _ (m : ModuleTree) (shape : IsShapely m) where
  pub in_order : (p q : ℕ) (x y : NetTree) → p ≤ q → slice_get m.nets p ≡ Some x → slice_get m.nets q ≡ Some y → x.item ≤ y.item
  in_order p q x y l e f = elim (cases_Bool (nat_lt p q)) [
    | inl t ↦ shape.in_order p q x y (let s : p < q = grind (arith, nat_tests) in s) e f
    | inr t ↦
        let s : p ≡ q = grind (arith, nat_tests) in
        let same : Some x ≡ Some y = sym e ∙ ap (slice_get m.nets) s ∙ f in
        let w : x ≡ y = cc in
        omega (arith, ap (λ (z : NetTree). z.item) w)
  ]

  pub declared_before : (k : ℕ) (n : List ℕ) → is_declared_before m.nets k n ≡ true → IsDeclaredBefore m k n
  unfolding net_named
  declared_before k n h = by (find (λ (x : NetTree). bytes_eq x.name n) m.nets) refl h
    where
      by : (o : Option NetTree) → find (λ (x : NetTree). bytes_eq x.name n) m.nets ≡ o → passes (λ (x : NetTree). nat_lt x.item k) o ≡ true
          → IsDeclaredBefore m k n
      by None e h = absurd (let f : false ≡ true = h in cc)
      by (Some x) e h =
          let r = find_some (λ (x : NetTree). bytes_eq x.name n) m.nets x e in
          (x, r.0, same_bytes x.name n r.1, lt_of x.item k h)
        where
          lt_of : (a b : ℕ) → nat_lt a b ≡ true → a < b
          lt_of a b h = grind (arith, nat_tests)

  pub before_declared : (k : ℕ) (n : List ℕ) → IsDeclaredBefore m k n → is_declared_before m.nets k n ≡ true
  unfolding net_named
  before_declared k n d = by (find (λ (x : NetTree). bytes_eq x.name n) m.nets) refl
    where
      lt_to : (a b : ℕ) → a < b → nat_lt a b ≡ true
      lt_to a b h = grind (arith, nat_tests)

      by : (o : Option NetTree) → find (λ (x : NetTree). bytes_eq x.name n) m.nets ≡ o → passes (λ (x : NetTree). nat_lt x.item k) o ≡ true
      by None e = absurd (clash _ (bytes_same d.0.name n d.2) (find_none (λ (x : NetTree). bytes_eq x.name n) m.nets d.0 e d.1))
      by (Some y) e =
          let r = find_before (λ (x : NetTree). bytes_eq x.name n) m.nets d.0 y e d.1 (bytes_same d.0.name n d.2) in
          let l = in_order r.0 r.1 y d.0 r.4 r.2 r.3 in
          lt_to y.item k (omega (arith, l, d.3))

  -- a name that is not declared before, nor among these
  abbrev Strange : ℕ → List (List ℕ) → List ℕ → Type 0
  Strange k given n = (Among n given → ⊥) × (IsDeclaredBefore m k n → ⊥)

  abbrev is_strange : ℕ → List (List ℕ) → List ℕ → Bool
  is_strange k given n = not (is_declared_before m.nets k n) && not (is_in given n)

  unknown_strange : (k : ℕ) (es : List Entry) (given : List (List ℕ)) → HasNames es given → (n : List ℕ) → is_unknown m.nets k es n ≡ is_strange k given n
  unknown_strange k es given h n = ap (λ b. not (is_declared_before m.nets k n) && not b) (h n)

  strange_is : (k : ℕ) (given : List (List ℕ)) (n : List ℕ) → is_strange k given n ≡ true → Strange k given n
  strange_is k given n h = (λ a. no_in (among_in given n a) h, λ d. no_declared (before_declared k n d) h)
    where
      no_in : is_in given n ≡ true → is_strange k given n ≡ true → ⊥
      no_in e h = let f : (not (is_declared_before m.nets k n) && false) ≡ true = sym (ap (λ b. not (is_declared_before m.nets k n) && not b) e) ∙ h in
          never (not (is_declared_before m.nets k n)) f
        where
          never : (b : Bool) → (b && false) ≡ true → ⊥
          never true g = cc
          never false g = cc

      no_declared : is_declared_before m.nets k n ≡ true → is_strange k given n ≡ true → ⊥
      no_declared e h = let f : false ≡ true = sym (ap (λ b. not b && not (is_in given n)) e) ∙ h in cc

  is_strange_at : (k : ℕ) (given : List (List ℕ)) (n : List ℕ) → Strange k given n → is_strange k given n ≡ true
  is_strange_at k given n s =
      (λ i. not (no_before i) && not (not_in given n s.0 i))
    where
      no_before : is_declared_before m.nets k n ≡ false
      no_before = elim (cases_Bool (is_declared_before m.nets k n)) [ inl e ↦ absurd (s.1 (declared_before k n e)) | inr e ↦ e ]

  -- declarations with values

  abbrev drive_test : ℕ → ℕ → List (List ℕ) → DriveTree → Bool
  drive_test k j given d = list_any (is_strange k given) (names_in d.value)

  abbrev drive_names : DriveTree → List (List ℕ)
  drive_names d = d.name ∷ []

  drives_scan : (k j : ℕ) (es : List Entry) (given : List (List ℕ)) → HasNames es given → (ds : List DriveTree)
      → drives_unknown m.nets k es ds ≡ is_some (scan (drive_test k) drive_names j given ds)
  drives_scan k j es given h [] = refl
  drives_scan k j es given h (d ∷ ds) =
      (λ i. any_same (is_unknown m.nets k es) (is_strange k given) (names_in d.value) (unknown_strange k es given h) i || drives_scan k (j + 1)
      (with_place es d.name 0) (given ++ d.name ∷ []) (names_more es given d.name 0 h) ds i)
      ∙ by (drive_test k j given d)
    where
      by : (b : Bool) → (b || is_some (scan (drive_test k) drive_names (j + 1) (given ++ d.name ∷ []) ds)) ≡ is_some
          (if b then Some (j, d) else scan (drive_test k) drive_names (j + 1) (given ++ d.name ∷ []) ds)
      by true = refl
      by false = refl

  given_names : (ds : List DriveTree) → flat_map drive_names ds ≡ map target_of ds
  given_names [] = refl
  given_names (d ∷ ds) = ap (λ ns. d.name ∷ ns) (given_names ds)

  nets_to : (k : ℕ) (ds : List DriveTree) → uses_unknown m.nets k (nets ds) ≡ true → (n : List ℕ) × UsesUnknown m k (nets ds) n
  nets_to k ds h =
      let p = scan_some (drive_test k) drive_names 0 [] ds (sym (drives_scan k 0 [] [] no_names ds) ∙ h) in
      let j = p.1.0 in
      let a = any_among (is_strange k (flat_map drive_names (take j ds))) (names_in p.1.1.value) p.1.4 in
      let s = strange_is k (flat_map drive_names (take j ds)) a.0 a.2 in
      (a.0, (j, p.1.1, p.1.3, a.1, (λ b. s.0 (subst (Among a.0) (sym (given_names (take j ds))) b)), s.1))

  nets_from : (k : ℕ) (ds : List DriveTree) (n : List ℕ) → UsesUnknown m k (nets ds) n → uses_unknown m.nets k (nets ds) ≡ true
  nets_from k ds n u =
      let j = u.0 in
      let r : j ≡ j + 0 = omega arith in
      drives_scan k 0 [] [] no_names ds
      ∙ some_scan (drive_test k) drive_names 0 [] ds j (
        j,
        u.1,
        r,
        u.2,
        among_any (is_strange k (flat_map drive_names (take j ds))) (names_in u.1.value) n u.3
            (is_strange_at k (flat_map drive_names (take j ds)) n ((λ b. u.4 (subst (Among n) (given_names (take j ds)) b)), u.5)),
      )

  list_to : (k : ℕ) (ns : List (List ℕ)) → list_any (is_unknown m.nets k []) ns ≡ true → (n : List ℕ) × Among n ns × (IsDeclaredBefore m k n → ⊥)
  list_to k ns h =
      let a = any_among (is_unknown m.nets k []) ns h in
      (a.0, a.1, (strange_is k [] a.0 (sym (unknown_strange k [] [] no_names a.0) ∙ a.2)).1)

  list_from : (k : ℕ) (ns : List (List ℕ)) (n : List ℕ) → Among n ns → (IsDeclaredBefore m k n → ⊥) → list_any (is_unknown m.nets k []) ns ≡ true
  list_from k ns n a d = among_any (is_unknown m.nets k []) ns n a (unknown_strange k [] [] no_names n ∙ is_strange_at k [] n ((λ b. b), d))

  unknown_to : (k : ℕ) (i : ItemTree) → uses_unknown m.nets k i ≡ true → (n : List ℕ) × UsesUnknown m k i n
  unknown_to k (nets ds) h = nets_to k ds h
  unknown_to k (assigns ds) h =
      let r = list_to k (([] ++ map target_of ds) ++ flat_map drive_reads ds) h in
      (r.0, (among_split r.0 (map target_of ds) (flat_map drive_reads ds) r.1, r.2))
  unknown_to k (always clock body) h =
      let r = list_to k ((clock ∷ stmt_targets body) ++ stmt_reads body) h in
      (r.0, (elim r.1 [ inl e ↦ inl e | inr deep ↦ inr (among_split r.0 (stmt_targets body) (stmt_reads body) deep) ], r.2))

  unknown_from : (k : ℕ) (i : ItemTree) (n : List ℕ) → UsesUnknown m k i n → uses_unknown m.nets k i ≡ true
  unknown_from k (nets ds) n u = nets_from k ds n u
  unknown_from k (assigns ds) n u =
      list_from k (([] ++ map target_of ds) ++ flat_map drive_reads ds) n
      (elim u.0 [ inl a ↦ among_left n (map target_of ds) (flat_map drive_reads ds) a | inr a ↦ among_right n (map target_of ds) (flat_map drive_reads ds) a ])
      u.1
  unknown_from k (always clock body) n u =
      list_from k ((clock ∷ stmt_targets body) ++ stmt_reads body) n
      (elim u.0 [
        | inl e ↦ inl e
        | inr r ↦ inr (elim r [ inl a ↦ among_left n (stmt_targets body) (stmt_reads body) a | inr a ↦ among_right n (stmt_targets body) (stmt_reads body) a ])
      ]) u.1

  -- the first item that uses a name that is not declared before
  pub unknown_first : IsFirstOf (HasUnknown m) (first_from (uses_unknown m.nets) 1 m.items)
  unknown_first =
      first_map
      (λ k p. let u = unknown_to k p.1 p.4 in (p.1, u.0, (p.0, p.2, p.3), u.1))
      (λ k h. (h.2.0, h.0, h.2.1, h.2.2, unknown_from k h.0 h.1 h.3))
      (first_from (uses_unknown m.nets) 1 m.items) (first_passes (uses_unknown m.nets) 1 m.items)
