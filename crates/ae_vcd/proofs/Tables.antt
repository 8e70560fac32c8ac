-- The tables of a header: its codes, and the numbers of its variables' codes.
use Rattle.std.proofs.Common.{◌≡◌, ℕ, zero, suc, ◌+◌, ◌<◌, ◌≤◌, ◌^◌, Bool, true, false, cond, not, ◌&&◌, ◌||◌, ◌==◌, nat_lt, List, [], ◌∷◌, ◌++◌, length, map, get_or, Some, None, max, refl, sym, ap, ◌∙◌, subst, inl, inr, ◌⊎◌, arith, length-append}
use Rattle.std.specs.Str.{bytes_eq}
use Rattle.std.specs.List.{position_or_len}
use Rattle.std.proofs.Math.ListN.{get_or-append}
use Rattle.std.proofs.Math.Nat.{pow-le-pow_right}
use Rattle.std.proofs.lemmas.Bool.{cases_lt, eqb-true, lt-ltb, cases_Bool}
use Rattle.std.proofs.lemmas.List.{get_or_push, length-map, map-append}
use Rattle.std.proofs.lemmas.List.Quantifiers.{position-Some}
use Rattle.std.proofs.lemmas.List.Sums.{fails_before_first, position_or_len_is}
use Rattle.std.proofs.lemmas.Slice.Eq.{bytes_eq-Decides}
use Rattle.ae_vcd.specs.Codes.{place}
use Rattle.ae_vcd.specs.Forms.{Variable, agrees, is_bit, takes}
use Rattle.ae_vcd.specs.Machine.{has_room}
use Rattle.ae_vcd.specs.declared.header.Declared.{Declared}
use Rattle.ae_vcd.specs.Waves.{bytes_of}
use Rattle.ae_vcd.specs.Held.{Declares, HasWidth, IsNew, IsPut, IsTable, code_at, width_at, widest}
use Rattle.ae_vcd.proofs.Written.{not_less}

-- ---- places

place_at : (code : List ℕ) (known : List (List ℕ)) (n : ℕ) → n < length known → bytes_eq code (get_or known n []) ≡ true
    → ((k : ℕ) → k < n → bytes_eq code (get_or known k []) ≡ false) → place code known ≡ Some n
place_at code known n l t h =
    let e : position_or_len (bytes_eq code) known ≡ n = position_or_len_is (bytes_eq code) known n [] (omega arith) h (λ _. t) in
    (λ i. cond (nat_lt (e i) (length known)) (Some (e i)) None) ∙ ap (λ b. cond b (Some n) None) (lt-ltb n (length known) l)

pub place_is : (code : List ℕ) (known : List (List ℕ)) (n : ℕ) → place code known ≡ Some n → (n < length known) × (get_or known n [] ≡ code)
place_is code known n e = (let p = position-Some (bytes_eq code) known n [] e in (p.0, sym ((bytes_eq-Decides code (get_or known n [])).0 p.1)))

place_none : (code : List ℕ) (known : List (List ℕ)) → place code known ≡ None → (k : ℕ) → k < length known → bytes_eq code (get_or known k []) ≡ false
place_none code known e k l = elim (cases_lt (position_or_len (bytes_eq code) known) (length known)) [
  | inl b ↦ absurd (let q : Some (position_or_len (bytes_eq code) known) ≡ None = sym
      (ap (λ b. cond b (Some (position_or_len (bytes_eq code) known)) None) (lt-ltb _ _ b)) ∙ e in let f : ⊥ = cc in f)
  | inr b ↦ fails_before_first (bytes_eq code) known k [] (omega arith)
]

place_more : (code other : List ℕ) (known : List (List ℕ)) (n : ℕ) → place code known ≡ Some n → place code (known ++ other ∷ []) ≡ Some n
place_more code other known n e =
    let p = position-Some (bytes_eq code) known n [] e in
    let long : length (known ++ other ∷ []) ≡ length known + 1 = length-append known (other ∷ []) in
    place_at code (known ++ other ∷ []) n (let l = p.0 in omega arith) (ap (bytes_eq code) (get_or-append known (other ∷ []) [] n p.0) ∙ p.1)
    (λ k l. ap (bytes_eq code) (get_or-append known (other ∷ []) [] k (let m = p.0 in omega arith)) ∙ p.2 k l)

place_last : (code : List ℕ) (known : List (List ℕ)) → place code known ≡ None → place code (known ++ code ∷ []) ≡ Some (length known)
place_last code known e =
    let long : length (known ++ code ∷ []) ≡ length known + 1 = length-append known (code ∷ []) in
    place_at code (known ++ code ∷ []) (length known) (omega arith)
    ((bytes_eq-Decides code (get_or (known ++ code ∷ []) (length known) [])).1 (sym (get_or_push known code [] (length known) refl)))
    (λ k l. ap (bytes_eq code) (get_or-append known (code ∷ []) [] k l) ∙ place_none code known e k l)

-- ---- variables

many : {A : Type 0} (f : Variable → A) (vs : List Variable) → length (map f vs) ≡ length vs
many f vs = length-map vs f

old_code : (vs : List Variable) (v : Variable) (k : ℕ) → k < length vs → code_at (vs ++ v ∷ []) k ≡ code_at vs k
old_code vs v k l =
    ap (λ (xs : List (List ℕ)). get_or xs k []) (map-append (λ (v : Variable). v.code) vs (v ∷ [])) ∙
    get_or-append (map (λ (v : Variable). v.code) vs) (v.code ∷ []) [] k (omega (arith, many (λ (v : Variable). v.code) vs))

new_code : (vs : List Variable) (v : Variable) → code_at (vs ++ v ∷ []) (length vs) ≡ v.code
new_code vs v =
    ap (λ (xs : List (List ℕ)). get_or xs (length vs) []) (map-append (λ (v : Variable). v.code) vs (v ∷ [])) ∙
    get_or_push (map (λ (v : Variable). v.code) vs) v.code [] (length vs) (many (λ (v : Variable). v.code) vs)

old_width : (vs : List Variable) (v : Variable) (k : ℕ) → k < length vs → width_at (vs ++ v ∷ []) k ≡ width_at vs k
old_width vs v k l =
    ap (λ (xs : List ℕ). get_or xs k 0) (map-append (λ (v : Variable). v.width) vs (v ∷ [])) ∙
    get_or-append (map (λ (v : Variable). v.width) vs) (v.width ∷ []) 0 k (omega (arith, many (λ (v : Variable). v.width) vs))

new_width : (vs : List Variable) (v : Variable) → width_at (vs ++ v ∷ []) (length vs) ≡ v.width
new_width vs v =
    ap (λ (xs : List ℕ). get_or xs (length vs) 0) (map-append (λ (v : Variable). v.width) vs (v ∷ [])) ∙
    get_or_push (map (λ (v : Variable). v.width) vs) v.width 0 (length vs) (many (λ (v : Variable). v.width) vs)

-- ---- what a look-up tells

pub look_new : (known : List (List ℕ)) (widths numbers : List ℕ) (vs : List Variable) (code : List ℕ) → IsTable known widths numbers vs
    → place code known ≡ None → IsNew vs code
look_new known widths numbers vs code t e k l = elim (cases_Bool (bytes_eq (code_at vs k) code)) [
  | inr f ↦ f
  | inl f ↦ absurd (let is : code_at vs k ≡ code = (bytes_eq-Decides (code_at vs k) code).0 f in let q : Some (get_or numbers k 0) ≡ None = sym (t.found k l) ∙
      (ap (λ c. place c known) is ∙ e) in let g : ⊥ = cc in g)
]

pub look_known : (known : List (List ℕ)) (widths numbers : List ℕ) (vs : List Variable) (code : List ℕ) (n : ℕ) → IsTable known widths numbers vs
    → place code known ≡ Some n → HasWidth vs code (get_or widths n 0)
look_known known widths numbers vs code n t e =
    let p = place_is code known n e in
    let u = t.used n p.0 in
    let own : place (code_at vs u.0) known ≡ Some n = t.found u.0 u.1 ∙ ap (λ m. Some m) u.2 in
    let q = place_is (code_at vs u.0) known n own in (
      λ k l f. (
          let is : code_at vs k ≡ code = (bytes_eq-Decides (code_at vs k) code).0 f in
          let s : Some (get_or numbers k 0) ≡ Some n = sym (t.found k l) ∙ (ap (λ c. place c known) is ∙ e) in
          let m : get_or numbers k 0 ≡ n = cc in
          sym (t.wide k l) ∙ ap (λ m. get_or widths m 0) m),
      (u.0, u.1, (bytes_eq-Decides (code_at vs u.0) code).1 (sym q.1 ∙ p.1)),
    )

-- ---- tests of a code's width

same_bools : (a b : Bool) → (a ≡ true → b ≡ true) → (b ≡ true → a ≡ true) → a ≡ b
same_bools true b f g = sym (f refl)
same_bools false true f g = g refl
same_bools false false f g = refl

some_have : (p : ℕ → Bool) (test : List Variable → Bool) (code : List ℕ) → test [] ≡ false
    → ((v : Variable) (vs : List Variable) → test (v ∷ vs) ≡ ((bytes_eq v.code code && p v.width) || test vs))
    → (vs : List Variable) (w : ℕ) → ((k : ℕ) → k < length vs → bytes_eq (code_at vs k) code ≡ true → width_at vs k ≡ w) → test vs ≡ true → p w ≡ true
some_have p test code z s [] w h e = (let q : false ≡ true = sym z ∙ e in let f : ⊥ = cc in absurd f)
some_have p test code z s (v ∷ vs) w h e =
    one (bytes_eq v.code code) refl (p v.width) refl (sym (s v vs) ∙ e) (some_have p test code z s vs w (λ k l. h (suc k) (omega arith)))
  where
    one : (b : Bool) → bytes_eq v.code code ≡ b → (c : Bool) → p v.width ≡ c → ((bytes_eq v.code code && p v.width) || test vs) ≡ true
        → (test vs ≡ true → p w ≡ true) → p w ≡ true
    one true eb true ec q r = ap p (sym (h 0 (omega arith) eb)) ∙ ec
    one true eb false ec q r = r (sym (λ i. (eb i && ec i) || test vs) ∙ q)
    one false eb c ec q r = r (sym (λ i. (eb i && p v.width) || test vs) ∙ q)

one_has : (p : ℕ → Bool) (test : List Variable → Bool) (code : List ℕ)
    → ((v : Variable) (vs : List Variable) → test (v ∷ vs) ≡ ((bytes_eq v.code code && p v.width) || test vs))
    → (vs : List Variable) (k : ℕ) → k < length vs → bytes_eq (code_at vs k) code ≡ true → p (width_at vs k) ≡ true → test vs ≡ true
one_has p test code s [] k l e f = absurd (omega arith)
one_has p test code s (v ∷ vs) zero l e f = s v vs ∙ ap (λ t. t || test vs) (λ i. e i && f i)
one_has p test code s (v ∷ vs) (suc k) l e f =
    s v vs ∙ (ap (λ t. (bytes_eq v.code code && p v.width) || t) (one_has p test code s vs k (omega arith) e f) ∙ or_true (bytes_eq v.code code && p v.width))
  where
    or_true : (b : Bool) → (b || true) ≡ true
    or_true true = refl
    or_true false = refl

known_test : (p : ℕ → Bool) (test : List Variable → Bool) (code : List ℕ) → test [] ≡ false
    → ((v : Variable) (vs : List Variable) → test (v ∷ vs) ≡ ((bytes_eq v.code code && p v.width) || test vs))
    → (vs : List Variable) (w : ℕ) → HasWidth vs code w → test vs ≡ p w
known_test p test code z s vs w h =
    same_bools (test vs) (p w) (some_have p test code z s vs w h.0) (λ e. one_has p test code s vs h.1.0 h.1.1 h.1.2 (ap p (h.0 h.1.0 h.1.1 h.1.2) ∙ e))

new_test : (p : ℕ → Bool) (test : List Variable → Bool) (code : List ℕ) → test [] ≡ false
    → ((v : Variable) (vs : List Variable) → test (v ∷ vs) ≡ ((bytes_eq v.code code && p v.width) || test vs))
    → (vs : List Variable) → IsNew vs code → test vs ≡ false
new_test p test code z s [] h = z
new_test p test code z s (v ∷ vs) h =
    s v vs ∙ (ap (λ t. (t && p v.width) || test vs) (h 0 (omega arith)) ∙ new_test p test code z s vs (λ k l. h (suc k) (omega arith)))

pub takes_known : (vs : List Variable) (code : List ℕ) (value w : ℕ) → HasWidth vs code w → takes vs code value ≡ nat_lt value (2 ^ w)
takes_known vs code value w h = known_test (λ w. nat_lt value (2 ^ w)) (λ vs. takes vs code value) code refl (λ v vs. refl) vs w h

pub takes_new : (vs : List Variable) (code : List ℕ) (value : ℕ) → IsNew vs code → takes vs code value ≡ false
takes_new vs code value h = new_test (λ w. nat_lt value (2 ^ w)) (λ vs. takes vs code value) code refl (λ v vs. refl) vs h

pub bit_known : (vs : List Variable) (code : List ℕ) (w : ℕ) → HasWidth vs code w → is_bit vs code ≡ (w == 1)
bit_known vs code w h = known_test (λ w. w == 1) (λ vs. is_bit vs code) code refl (λ v vs. refl) vs w h

pub bit_new : (vs : List Variable) (code : List ℕ) → IsNew vs code → is_bit vs code ≡ false
bit_new vs code h = new_test (λ w. w == 1) (λ vs. is_bit vs code) code refl (λ v vs. refl) vs h

-- whether some variable with the code has another width
abbrev differs : List Variable → (code : List ℕ) → (width : ℕ) → Bool
differs [] code width = false
differs (v ∷ vs) code width = (bytes_eq v.code code && not (v.width == width)) || differs vs code width

agrees_not : (vs : List Variable) (code : List ℕ) (width : ℕ) → agrees vs code width ≡ not (differs vs code width)
agrees_not [] code width = refl
agrees_not (v ∷ vs) code width =
    ap (λ t. (not (bytes_eq v.code code) || v.width == width) && t) (agrees_not vs code width) ∙
    sym (two (bytes_eq v.code code) (v.width == width) (differs vs code width))
  where
    two : (b c d : Bool) → not ((b && not c) || d) ≡ ((not b || c) && not d)
    two true true d = refl
    two true false d = refl
    two false c d = refl

not_not : (b : Bool) → not (not b) ≡ b
not_not true = refl
not_not false = refl

pub agrees_known : (vs : List Variable) (code : List ℕ) (width w : ℕ) → HasWidth vs code w → agrees vs code width ≡ (w == width)
agrees_known vs code width w h =
    agrees_not vs code width ∙ (ap not (known_test (λ w. not (w == width)) (λ vs. differs vs code width) code refl (λ v vs. refl) vs w h) ∙
    not_not (w == width))

pub agrees_new : (vs : List Variable) (code : List ℕ) (width : ℕ) → IsNew vs code → agrees vs code width ≡ true
agrees_new vs code width h = agrees_not vs code width ∙ ap not (new_test (λ w. not (w == width)) (λ vs. differs vs code width) code refl (λ v vs. refl) vs h)

-- ---- the widest width

not_room : (value a b : ℕ) → a ≤ b → nat_lt value (2 ^ b) ≡ false → nat_lt value (2 ^ a) ≡ false
not_room value a b l e = elim (cases_lt value (2 ^ b)) [
  | inl m ↦ absurd (let q : true ≡ false = sym (lt-ltb value (2 ^ b) m) ∙ e in let f : ⊥ = cc in f)
  | inr m ↦ not_less value (2 ^ a) (let one : 0 < 2 = omega arith in let up : 2 ^ a ≤ 2 ^ b = pow-le-pow_right one l in omega arith)
]

or_max : (value a b : ℕ) → (nat_lt value (2 ^ a) || nat_lt value (2 ^ b)) ≡ nat_lt value (2 ^ max a b)
or_max value a b = elim (cases_lt a b) [
  | inl l ↦ (let m : max a b ≡ b = omega arith in one (nat_lt value (2 ^ b)) refl (nat_lt value (2 ^ a)) refl (λ e. not_room value a b (omega arith) e) ∙
      ap (λ w. nat_lt value (2 ^ w)) (sym m))
  | inr l ↦ (let m : max a b ≡ a = omega arith in two (nat_lt value (2 ^ a)) refl (nat_lt value (2 ^ b)) refl (λ e. not_room value b a (omega arith) e) ∙
      ap (λ w. nat_lt value (2 ^ w)) (sym m))
]
  where
    one : (y : Bool) → nat_lt value (2 ^ b) ≡ y → (x : Bool) → nat_lt value (2 ^ a) ≡ x → (nat_lt value (2 ^ b) ≡ false → nat_lt value (2 ^ a) ≡ false)
        → (nat_lt value (2 ^ a) || nat_lt value (2 ^ b)) ≡ nat_lt value (2 ^ b)
    one true f true e h = ap (λ t. t || nat_lt value (2 ^ b)) e ∙ sym f
    one false f true e h = (let q : true ≡ false = sym e ∙ h f in let g : ⊥ = cc in absurd g)
    one y f false e h = ap (λ t. t || nat_lt value (2 ^ b)) e

    two : (x : Bool) → nat_lt value (2 ^ a) ≡ x → (y : Bool) → nat_lt value (2 ^ b) ≡ y → (nat_lt value (2 ^ a) ≡ false → nat_lt value (2 ^ b) ≡ false)
        → (nat_lt value (2 ^ a) || nat_lt value (2 ^ b)) ≡ nat_lt value (2 ^ a)
    two true e y f h = ap (λ t. t || nat_lt value (2 ^ b)) e ∙ sym e
    two false e y f h = ap (λ t. t || nat_lt value (2 ^ b)) e ∙ (h e ∙ sym e)

pub room_widest : (vs : List Variable) (value : ℕ) → 1 ≤ length vs → has_room vs value ≡ nat_lt value (2 ^ widest vs)
room_widest [] value l = absurd (omega arith)
room_widest (v ∷ []) value l = (let m : max v.width 0 ≡ v.width = omega arith in or_none (nat_lt value (2 ^ v.width)) ∙ ap (λ w. nat_lt value (2 ^ w)) (sym m))
  where
    or_none : (b : Bool) → (b || false) ≡ b
    or_none true = refl
    or_none false = refl
room_widest (v ∷ u ∷ vs) value l = ap (λ t. nat_lt value (2 ^ v.width) || t) (room_widest (u ∷ vs) value (omega arith)) ∙ or_max value v.width (widest (u ∷ vs))

widest_more : (vs : List Variable) (v : Variable) → widest (vs ++ v ∷ []) ≡ max (widest vs) v.width
widest_more [] v = omega arith
widest_more (u ∷ vs) v = ap (λ w. max u.width w) (widest_more vs v) ∙ three u.width (widest vs) v.width
  where
    three : (a b c : ℕ) → max a (max b c) ≡ max (max a b) c
    three a b c = omega arith

-- ---- one more variable

module _ (known : List (List ℕ)) (widths numbers : List ℕ) (vs : List Variable) (v : Variable) (t : IsTable known widths numbers vs)
    (a : agrees vs v.code v.width ≡ true) where
  below : (k : ℕ) → k < length (vs ++ v ∷ []) → (k < length vs) ⊎ (k ≡ length vs)
  below k l = elim (cases_lt k (length vs)) [ inl b ↦ inl b | inr b ↦ inr (let e = length-append vs (v ∷ []) in let is : k ≡ length vs = omega arith in is) ]

  longer : length (vs ++ v ∷ []) ≡ length vs + 1
  longer = length-append vs (v ∷ [])

  old_number : (n k : ℕ) → k < length vs → get_or (numbers ++ n ∷ []) k 0 ≡ get_or numbers k 0
  old_number n k l = get_or-append numbers (n ∷ []) 0 k (omega (arith, t.many))

  new_number : (n : ℕ) → get_or (numbers ++ n ∷ []) (length vs) 0 ≡ n
  new_number n = get_or_push numbers n 0 (length vs) t.many

  as_many : (n : ℕ) → length (numbers ++ n ∷ []) ≡ length (vs ++ v ∷ [])
  as_many n = length-append numbers (n ∷ []) ∙ (let e = longer in omega (arith, t.many))

  put_known : (n : ℕ) → place v.code known ≡ Some n → IsTable known widths (numbers ++ n ∷ []) (vs ++ v ∷ [])
  put_known n e = record {
    once = t.once;
    each = t.each;
    many = as_many n;
    found = λ k l. elim (below k l) [
      | inl b ↦ ap (λ c. place c known) (old_code vs v k b) ∙ (t.found k b ∙ ap (λ m. Some m) (sym (old_number n k b)))
      | inr b ↦ ap (λ j. place (code_at (vs ++ v ∷ []) j) known) b ∙
          (ap (λ c. place c known) (new_code vs v) ∙ (e ∙ ap (λ m. Some m) (sym (new_number n) ∙ ap (λ j. get_or (numbers ++ n ∷ []) j 0) (sym b))))
    ];
    wide = λ k l. elim (below k l) [
      | inl b ↦ ap (λ m. get_or widths m 0) (old_number n k b) ∙ (t.wide k b ∙ sym (old_width vs v k b))
      | inr b ↦ ap (λ j. get_or widths (get_or (numbers ++ n ∷ []) j 0) 0) b ∙
          (ap (λ m. get_or widths m 0) (new_number n) ∙ (same ∙ (sym (new_width vs v) ∙ ap (λ j. width_at (vs ++ v ∷ []) j) (sym b))))
    ];
    used = λ i l. (let u = t.used i l in (u.0, (let b = u.1 in let e = longer in omega arith), old_number n u.0 u.1 ∙ u.2));
  }
    where
      same : get_or widths n 0 ≡ v.width
      same = (let h = agrees_known vs v.code v.width (get_or widths n 0) (look_known known widths numbers vs v.code n t e) in
          sym (sym (eqb-true (get_or widths n 0) v.width (sym h ∙ a))))

  put_new : place v.code known ≡ None → IsTable (known ++ v.code ∷ []) (widths ++ v.width ∷ []) (numbers ++ length known ∷ []) (vs ++ v ∷ [])
  put_new e = record {
    once = λ i l. elim (cases_lt i (length known)) [
      | inl b ↦ ap (λ c. place c (known ++ v.code ∷ [])) (get_or-append known (v.code ∷ []) [] i b) ∙ place_more (get_or known i []) v.code known i (t.once i b)
      | inr b ↦ (let is : i ≡ length known = (let g = length-append known (v.code ∷ []) in omega arith) in
          ap (λ j. place (get_or (known ++ v.code ∷ []) j []) (known ++ v.code ∷ [])) is ∙
          (ap (λ c. place c (known ++ v.code ∷ [])) (get_or_push known v.code [] (length known) refl) ∙
          (place_last v.code known e ∙ ap (λ m. Some m) (sym is))))
    ];
    each = length-append widths (v.width ∷ []) ∙ (let g = length-append known (v.code ∷ []) in omega (arith, t.each));
    many = as_many (length known);
    found = λ k l. elim (below k l) [
      | inl b ↦ ap (λ c. place c (known ++ v.code ∷ [])) (old_code vs v k b) ∙
          (place_more (code_at vs k) v.code known (get_or numbers k 0) (t.found k b) ∙ ap (λ m. Some m) (sym (old_number (length known) k b)))
      | inr b ↦ ap (λ j. place (code_at (vs ++ v ∷ []) j) (known ++ v.code ∷ [])) b ∙
          (ap (λ c. place c (known ++ v.code ∷ [])) (new_code vs v) ∙
          (place_last v.code known e ∙ ap (λ m. Some m) (sym (new_number (length known)) ∙ ap (λ j. get_or (numbers ++ length known ∷ []) j 0) (sym b))))
    ];
    wide = λ k l. elim (below k l) [
      | inl b ↦
          let p = place_is (code_at vs k) known (get_or numbers k 0) (t.found k b) in
          ap (λ m. get_or (widths ++ v.width ∷ []) m 0) (old_number (length known) k b) ∙
          (get_or-append widths (v.width ∷ []) 0 (get_or numbers k 0) (let q = p.0 in omega (arith, t.each)) ∙ (t.wide k b ∙ sym (old_width vs v k b)))
      | inr b ↦ ap (λ j. get_or (widths ++ v.width ∷ []) (get_or (numbers ++ length known ∷ []) j 0) 0) b ∙
          (ap (λ m. get_or (widths ++ v.width ∷ []) m 0) (new_number (length known)) ∙
          (get_or_push widths v.width 0 (length known) t.each ∙ (sym (new_width vs v) ∙ ap (λ j. width_at (vs ++ v ∷ []) j) (sym b))))
    ];
    used = λ i l. elim (cases_lt i (length known)) [
      | inl b ↦ (let u = t.used i b in (u.0, (let b = u.1 in let e = longer in omega arith), old_number (length known) u.0 u.1 ∙ u.2))
      | inr b ↦ (length vs, (let e = longer in omega arith), new_number (length known) ∙ (let g = length-append known (v.code ∷ []) in omega arith))
    ];
  }

  pub put_more : (more : List (List ℕ)) (wider later : List ℕ) (n : ℕ) → IsPut known more widths wider v.code v.width n → later ≡ numbers ++ n ∷ []
      → IsTable more wider later (vs ++ v ∷ [])
  put_more more wider later n p e = elim p [
    | inl h ↦ subst (λ (x : List (List ℕ)). IsTable x wider later (vs ++ v ∷ [])) (sym h.1)
        (subst (λ (x : List ℕ). IsTable known x later (vs ++ v ∷ [])) (sym h.2)
        (subst (λ (x : List ℕ). IsTable known widths x (vs ++ v ∷ [])) (sym e) (put_known n h.0)))
    | inr h ↦ subst (λ (x : List (List ℕ)). IsTable x wider later (vs ++ v ∷ [])) (sym h.2)
        (subst (λ (x : List ℕ). IsTable (known ++ v.code ∷ []) x later (vs ++ v ∷ [])) (sym h.3)
        (subst (λ (x : List ℕ). IsTable (known ++ v.code ∷ []) (widths ++ v.width ∷ []) x (vs ++ v ∷ [])) (sym (e ∙ ap (λ m. numbers ++ m ∷ []) h.1))
        (put_new h.0)))
  ]

-- the rest of what is kept of a variable
pub put_declared : (old new : Declared) (vs : List Variable) (v : Variable) (n : ℕ) → Declares old vs → agrees vs v.code v.width ≡ true → v.width ≤ 64
    → IsPut old.codes new.codes old.code_widths.items new.code_widths.items v.code v.width n → new.numbers.items ≡ old.numbers.items ++ n ∷ []
    → bytes_of new.names.items ≡ bytes_of old.names.items ++ v.name ∷ [] → new.widths.items ≡ old.widths.items ++ v.width ∷ []
    → new.widest ≡ max old.widest v.width
    → Declares new (vs ++ v ∷ [])
put_declared old new vs v n h a b p numbers names widths most = record {
  table = put_more old.codes old.code_widths.items old.numbers.items vs v h.table a new.codes new.code_widths.items new.numbers.items n p numbers;
  names = names ∙ (ap (λ l. l ++ v.name ∷ []) h.names ∙ sym (map-append (λ (v : Variable). v.name) vs (v ∷ [])));
  widths = widths ∙ (ap (λ l. l ++ v.width ∷ []) h.widths ∙ sym (map-append (λ (v : Variable). v.width) vs (v ∷ [])));
  most = most ∙ (ap (λ w. max w v.width) h.most ∙ sym (widest_more vs v));
  narrow = (let q = h.narrow in omega arith);
}
