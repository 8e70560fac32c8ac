-- Which names are declared or driven twice.
use Rattle.std.proofs.Common.{ℕ, zero, suc, ◌≡◌, ◌+◌, ◌<◌, ◌≤◌, Bool, true, false, not, ◌&&◌, ◌||◌, List, [], ◌∷◌, ◌++◌, take, slice_get, Option, Some, None, is_some, if◌then◌else◌, refl, sym, ap, ◌∙◌, subst, arith, ◌⊎◌, inl, inr, append_assoc}
use Rattle.std.specs.Prelude.{flat_map, option_map, nat_lt, min}
use Rattle.std.specs.List.{list_any}
use Rattle.std.proofs.lemmas.Bool.{cases_Bool, or_cases, and_parts}
use Rattle.std.proofs.lemmas.Bool.Decides.{nat_tests}
use Rattle.std.proofs.lemmas.List.{append-nil}
use Rattle.ae_vmodule.specs.ModuleTree.{NetTree, ItemTree, ModuleTree}
use Rattle.ae_judge.specs.Names.{Among, is_input_name, item_targets}
use Rattle.ae_judge.specs.Shape.{IsShapely}
use Rattle.ae_judge.specs.Places.{Entry, with_place, HasNames}
use Rattle.ae_judge.specs.Faults.{ItemAt, DeclaresTwice, DrivesTwice, IsRepeated, may_repeat, HasTwice}
use Rattle.ae_judge.specs.Judging.{IsFirstOf, earlier, with_names, first_again, is_driven, repeats, drives_twice, first_twice}
use Rattle.ae_judge.proofs.Members.{among_left, among_right, among_split, among_from}
use Rattle.ae_judge.proofs.PlaceLemmas.{names_more}
use Rattle.ae_judge.proofs.Scan.{clash, scan, IsScan, scan_is, Passing, scan_first, scan_some, some_scan, first_map}
use Rattle.ae_judge.proofs.Unknowns.{any_among, among_any, any_same, is_in, in_among, among_in, no_names, in_order}

-- what stands in front of a place

pub taken : {X : Type 0} (names : X → List (List ℕ)) (n : List ℕ) (xs : List X) (q : ℕ) → Among n (flat_map names (take q xs)) → (p : ℕ) × (x : X) × (p < q)
    × (slice_get xs p ≡ Some x) × Among n (names x)
taken names n [] zero a = absurd a
taken names n [] (suc q) a = absurd a
taken names n (x ∷ xs) zero a = absurd a
taken names n (x ∷ xs) (suc q) a = elim (among_split n (names x) (flat_map names (take q xs)) a) [
  | inl here ↦ (0, x, omega arith, refl, here)
  | inr deep ↦ let r = taken names n xs q deep in (suc r.0, r.1, omega (arith, r.2), r.3, r.4)
]

pub take_in : {X : Type 0} (names : X → List (List ℕ)) (n : List ℕ) (xs : List X) (p q : ℕ) (x : X) → p < q → slice_get xs p ≡ Some x → Among n (names x)
    → Among n (flat_map names (take q xs))
take_in names n [] p q x l e a = absurd (let f : None ≡ Some x = e in cc)
take_in names n (y ∷ xs) p zero x l e a = absurd (omega arith)
take_in names n (y ∷ xs) zero (suc q) x l e a =
    let s : x ≡ y = (let t : Some y ≡ Some x = e in cc) in
    among_left n (names y) (flat_map names (take q xs)) (subst (λ z. Among n (names z)) s a)
take_in names n (y ∷ xs) (suc p) (suc q) x l e a = among_right n (names y) (flat_map names (take q xs)) (take_in names n xs p q x (omega arith) e a)

not_false : (b : Bool) → not b ≡ true → b ≡ false
not_false true h = absurd (let e : false ≡ true = h in cc)
not_false false h = refl

not_true : (b : Bool) → b ≡ false → not b ≡ true
not_true b h = ap not h

pub or_left : (a b : Bool) → a ≡ true → (a || b) ≡ true
or_left a b h = ap (λ c. c || b) h

pub or_right : (a b : Bool) → b ≡ true → (a || b) ≡ true
or_right true b h = refl
or_right false b h = h

and_both : (a b : Bool) → a ≡ true → b ≡ true → (a && b) ≡ true
and_both a b h g = λ i. h i && g i

-- declarations

abbrev net_names : NetTree → List (List ℕ)
net_names x = x.name ∷ []

abbrev again_test : ℕ → List (List ℕ) → NetTree → Bool
again_test k g x = is_in g x.name

again_scan : (k : ℕ) (es : List Entry) (given : List (List ℕ)) → HasNames es given → (xs : List NetTree)
    → first_again es xs ≡ option_map (λ r. r.1.item) (scan again_test net_names k given xs)
again_scan k es given h [] = refl
again_scan k es given h (x ∷ xs) =
    ap (λ b. if b then Some x.item else first_again (with_place es x.name 0) xs) (h x.name)
    ∙ by (is_in given x.name) (again_scan (k + 1) (with_place es x.name 0) (given ++ x.name ∷ []) (names_more es given x.name 0 h) xs)
  where
    by : (b : Bool) → first_again (with_place es x.name 0) xs ≡ option_map (λ r. r.1.item) (scan again_test net_names (k + 1) (given ++ x.name ∷ []) xs)
        → (if b then Some x.item else first_again (with_place es x.name 0) xs) ≡ option_map (λ r. r.1.item)
        (if b then Some (k, x) else scan again_test net_names (k + 1) (given ++ x.name ∷ []) xs)
    by true g = refl
    by false g = g

module _ (m : ModuleTree) (shape : IsShapely m) where
  unclear : (p q : ℕ) (x y : NetTree) → p < q → slice_get m.nets p ≡ Some x → x.name ≡ y.name → is_in (flat_map net_names (take q m.nets)) y.name ≡ false → ⊥
  unclear p q x y l e same c = clash _ (among_in (flat_map net_names (take q m.nets)) y.name (take_in net_names y.name m.nets p q x l e (inl same))) c

  again_is : (o : Option (ℕ × NetTree)) → IsScan again_test net_names 0 [] m.nets o → IsFirstOf (DeclaresTwice m) (option_map (λ r. r.1.item) o)
  again_is None s = λ k d. unclear d.0 d.1 d.2 d.3 d.4 d.5 d.7 (s d.1 d.3 d.6)
  again_is (Some r) s =
      let a = in_among (flat_map net_names (take s.0 m.nets)) r.1.name s.3 in
      let t = taken net_names r.1.name m.nets s.0 a in
      let same : t.1.name ≡ r.1.name = elim t.4 [ inl e ↦ e | inr n ↦ absurd n ] in
      ((t.0, s.0, t.1, r.1, t.2, t.3, s.2, same, refl), before)
    where
      before : (k : ℕ) → k < r.1.item → DeclaresTwice m k → ⊥
      before k l d = elim (cases_Bool (nat_lt d.1 s.0)) [
        | inl e ↦ unclear d.0 d.1 d.2 d.3 d.4 d.5 d.7 (s.4 d.1 (let g : d.1 < s.0 = grind (arith, nat_tests) in g) d.3 d.6)
        | inr e ↦
            let g : s.0 ≤ d.1 = grind (arith, nat_tests) in
            let o = in_order m shape s.0 d.1 r.1 d.3 g s.2 d.6 in
            omega (arith, o, d.8)
      ]

  pub again_first : IsFirstOf (DeclaresTwice m) (first_again [] m.nets)
  again_first = subst (IsFirstOf (DeclaresTwice m)) (sym (again_scan 0 [] [] no_names m.nets))
      (again_is (scan again_test net_names 0 [] m.nets) (scan_is again_test net_names 0 [] m.nets))

-- drives

pub names_many : (es : List Entry) (given ns : List (List ℕ)) → HasNames es given → HasNames (with_names es ns) (given ++ ns)
names_many es given [] h = subst (HasNames es) (sym (append-nil given)) h
names_many es given (n ∷ ns) h =
    subst (HasNames (with_names (with_place es n 0) ns)) (append_assoc given (n ∷ []) ns)
    (names_many (with_place es n 0) (given ++ n ∷ []) ns (names_more es given n 0 h))

module _ (ns : List NetTree) where
  abbrev self_name : List ℕ → List (List ℕ)
  self_name n = n ∷ []

  abbrev repeat_test : ItemTree → ℕ → List (List ℕ) → List ℕ → Bool
  repeat_test i k g n = is_in g n && not (may_repeat ns i n)

  repeat_scan : (i : ItemTree) (k : ℕ) (es : List Entry) (seen : List (List ℕ)) → HasNames es seen → (rest : List (List ℕ))
      → repeats ns i es rest ≡ is_some (scan (repeat_test i) self_name k seen rest)
  repeat_scan i k es seen h [] = refl
  repeat_scan i k es seen h (n ∷ rest) =
      (λ j. (h n j && not (may_repeat ns i n)) || repeat_scan i (k + 1) (with_place es n 0) (seen ++ n ∷ []) (names_more es seen n 0 h) rest j)
      ∙ by (repeat_test i k seen n)
    where
      by : (b : Bool) → (b || is_some (scan (repeat_test i) self_name (k + 1) (seen ++ n ∷ []) rest)) ≡ is_some
          (if b then Some (k, n) else scan (repeat_test i) self_name (k + 1) (seen ++ n ∷ []) rest)
      by true = refl
      by false = refl

  abbrev is_taken : List (List ℕ) → List ℕ → Bool
  is_taken g n = is_input_name ns n || is_in g n

  abbrev twice_test : ℕ → List (List ℕ) → ItemTree → Bool
  twice_test k g i = list_any (is_taken g) (item_targets i) || is_some (scan (repeat_test i) self_name 0 [] (item_targets i))

  twice_same : (k : ℕ) (es : List Entry) (given : List (List ℕ)) → HasNames es given → (i : ItemTree) → drives_twice ns es i ≡ twice_test k given i
  twice_same k es given h i =
      λ j. any_same (is_driven ns es) (is_taken given) (item_targets i) (λ n. ap (λ b. is_input_name ns n || b) (h n)) j || repeat_scan i 0 [] [] no_names
      (item_targets i) j

  twice_scan : (k : ℕ) (es : List Entry) (given : List (List ℕ)) → HasNames es given → (is : List ItemTree)
      → first_twice ns k es is ≡ option_map (λ r. r.0) (scan twice_test item_targets k given is)
  twice_scan k es given h [] = refl
  twice_scan k es given h (i ∷ is) =
      ap (λ b. if b then Some k else first_twice ns (k + 1) (with_names es (item_targets i)) is) (twice_same k es given h i)
      ∙ by (twice_test k given i) (twice_scan (k + 1) (with_names es (item_targets i)) (given ++ item_targets i) (names_many es given (item_targets i) h) is)
    where
      by : (b : Bool) → first_twice ns (k + 1) (with_names es (item_targets i)) is ≡ option_map (λ r. r.0)
          (scan twice_test item_targets (k + 1) (given ++ item_targets i) is)
          → (if b then Some k else first_twice ns (k + 1) (with_names es (item_targets i)) is) ≡ option_map (λ r. r.0)
          (if b then Some (k, i) else scan twice_test item_targets (k + 1) (given ++ item_targets i) is)
      by true g = refl
      by false g = g

module _ (m : ModuleTree) where
  abbrev Passed : ℕ → Type 0
  Passed r = Passing (twice_test m.nets) item_targets 1 [] m.items r

  -- how an item drives a name twice
  abbrev How : ℕ → ItemTree → List ℕ → Type 0
  How k i n =
      (is_input_name m.nets n ≡ true)
      ⊎ (((j : ℕ) × (before : ItemTree) × (j < k) × ItemAt m j before × Among n (item_targets before))
      ⊎ (IsRepeated n (item_targets i) × (may_repeat m.nets i n ≡ false)))

  from_taken : (r j : ℕ) (i : ItemTree) → r ≡ j + 1 → list_any (is_taken m.nets (flat_map item_targets (take j m.items))) (item_targets i) ≡ true
      → (n : List ℕ) × Among n (item_targets i) × How r i n
  from_taken r j i e h =
      let a = any_among (is_taken m.nets (flat_map item_targets (take j m.items))) (item_targets i) h in (
        a.0,
        a.1,
        elim (or_cases _ _ a.2) [
          | inl input ↦ inl input
          | inr earlier ↦
              let t = taken item_targets a.0 m.items j (in_among (flat_map item_targets (take j m.items)) a.0 earlier) in
              inr (inl (t.0 + 1, t.1, omega (arith, t.2), (t.0, refl, t.3), t.4))
        ],
      )

  from_repeat : (r : ℕ) (i : ItemTree) → is_some (scan (repeat_test m.nets i) (self_name m.nets) 0 [] (item_targets i)) ≡ true → (n : List ℕ)
      × Among n (item_targets i) × How r i n
  from_repeat r i h =
      let s = scan_some (repeat_test m.nets i) (self_name m.nets) 0 [] (item_targets i) h in
      let j = s.1.0 in
      let n = s.1.1 in
      let b = and_parts _ _ s.1.4 in
      let t = taken (self_name m.nets) n (item_targets i) j (in_among (flat_map (self_name m.nets) (take j (item_targets i))) n b.0) in
      let same : t.1 ≡ n = elim t.4 [ inl e ↦ e | inr none ↦ absurd none ] in
      (n, among_from n (item_targets i) j s.1.3, inr (inr ((t.0, j, t.2, t.3 ∙ ap Some same, s.1.3), not_false _ b.1)))

  twice_to : (r : ℕ) → Passed r → DrivesTwice m r
  twice_to r p =
      let u : (n : List ℕ) × Among n (item_targets p.1) × How r p.1 n = elim (or_cases _ _ p.4) [
        | inl t ↦ from_taken r p.0 p.1 p.2 t
        | inr t ↦ from_repeat r p.1 t
      ] in
      (p.1, u.0, (p.0, p.2, p.3), u.1, u.2)

  pass_taken : (j : ℕ) (i : ItemTree) (n : List ℕ) → Among n (item_targets i) → is_taken m.nets (flat_map item_targets (take j m.items)) n ≡ true
      → twice_test m.nets (j + 1) (flat_map item_targets (take j m.items)) i ≡ true
  pass_taken j i n a h = or_left _ _ (among_any (is_taken m.nets (flat_map item_targets (take j m.items))) (item_targets i) n a h)

  pass_how : (r j : ℕ) (i : ItemTree) (n : List ℕ) → r ≡ j + 1 → Among n (item_targets i) → How r i n
      → twice_test m.nets r (flat_map item_targets (take j m.items)) i ≡ true
  pass_how r j i n e a how = elim how [
    | inl input ↦ pass_taken j i n a (or_left _ _ input)
    | inr other ↦ elim other [
      | inl d ↦
          let l : d.3.0 < j = omega (arith, d.2, d.3.1) in
          pass_taken j i n a (or_right _ _ (among_in (flat_map item_targets (take j m.items)) n (take_in item_targets n m.items d.3.0 j d.1 l d.3.2 d.4)))
      | inr d ↦
          let q = d.0.1 in
          let l : is_in (flat_map (self_name m.nets) (take q (item_targets i))) n ≡ true = among_in (flat_map (self_name m.nets) (take q (item_targets i))) n
          (take_in (self_name m.nets) n (item_targets i) d.0.0 q n d.0.2 d.0.3 (inl refl)) in
          or_right _ _ (some_scan (repeat_test m.nets i) (self_name m.nets) 0 [] (item_targets i) q (q, n, omega arith, d.0.4, and_both _ _ l (not_true _ d.1)))
    ]
  ]

  twice_from : (r : ℕ) → DrivesTwice m r → Passed r
  twice_from r d = (d.2.0, d.0, d.2.1, d.2.2, pass_how r d.2.0 d.0 d.1 d.2.1 d.3 d.4)

  pub drives_first : IsFirstOf (DrivesTwice m) (first_twice m.nets 1 [] m.items)
  drives_first =
      first_map twice_to twice_from (first_twice m.nets 1 [] m.items)
      (subst (IsFirstOf Passed) (sym (twice_scan m.nets 1 [] [] no_names m.items)) (scan_first (twice_test m.nets) item_targets 1 [] m.items))

-- the first of two kinds
pub first_either : (P Q : ℕ → Type 0) (a b : Option ℕ) → IsFirstOf P a → IsFirstOf Q b → IsFirstOf (λ k. P k ⊎ Q k) (earlier a b)
first_either P Q None None p q = λ k h. elim h [ inl x ↦ p k x | inr y ↦ q k y ]
first_either P Q None (Some b) p q = (inr q.0, λ j l h. elim h [ inl x ↦ p j x | inr y ↦ q.1 j l y ])
first_either P Q (Some a) None p q = (inl p.0, λ j l h. elim h [ inl x ↦ p.1 j l x | inr y ↦ q j y ])
first_either P Q (Some a) (Some b) p q = elim (cases_Bool (nat_lt a b)) [
  | inl e ↦
      let l : a < b = grind (arith, nat_tests) in
      let s : a ≡ min a b = omega arith in
      subst (IsFirstOf (λ k. P k ⊎ Q k)) (ap Some s) (inl p.0, λ j t h. elim h [ inl x ↦ p.1 j t x | inr y ↦ q.1 j (omega arith) y ])
  | inr e ↦
      let l : b ≤ a = grind (arith, nat_tests) in
      let s : b ≡ min a b = omega arith in
      subst (IsFirstOf (λ k. P k ⊎ Q k)) (ap Some s) (inr q.0, λ j t h. elim h [ inl x ↦ p.1 j (omega arith) x | inr y ↦ q.1 j t y ])
]

pub twice_first : (m : ModuleTree) → IsShapely m → IsFirstOf (HasTwice m) (earlier (first_again [] m.nets) (first_twice m.nets 1 [] m.items))
twice_first m shape =
    first_either (DeclaresTwice m) (DrivesTwice m) (first_again [] m.nets) (first_twice m.nets 1 [] m.items) (again_first m shape) (drives_first m)
