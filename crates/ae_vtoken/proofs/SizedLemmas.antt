-- Sized constants: which pieces are none, and where one ends.
use Rattle.std.proofs.Common.{◌≡◌, ℕ, ◌+◌, ◌<◌, ◌≤◌, List, [], ◌∷◌, ◌++◌, length, Bool, true, false, cond, Some, None, refl, sym, ap, ◌∙◌, subst, arith, append_assoc, append-nil, ◌⊎◌, inl, inr, nat_eq}
use Rattle.std.specs.Prelude.{◌==◌, ◌&&◌, ◌||◌, not, codes, nat_lt, filter}
use Rattle.std.specs.List.{list_all, starts_with}
use Rattle.std.specs.Char.{is_ascii_digit, digit_value}
use Rattle.std.specs.Str.Parse.{digits_value}
use Rattle.std.proofs.lemmas.Bool.{cond-true, cond-false, cases_Bool}
use Rattle.std.proofs.lemmas.List.Folds.{list_all-append}
use Rattle.ae_vtoken.specs.Tokens.{is_word_start, base_of, are_digits, constant, sized_of, decimal_of, token_of, IsLongest}
use Rattle.ae_vtoken.specs.Scan.{NoSized}
use Rattle.std.proofs.Common.{drop, take, get_or, length-drop, ◌-◌, suc, zero}
use Rattle.std.proofs.lemmas.List.{drop_more}
use Rattle.std.proofs.lemmas.Bool.{cases_lt}
use Rattle.ae_vtoken.proofs.Passing.{drop_past}
use Rattle.ae_vtoken.proofs.TokenAt.{piece_cons}
use Rattle.std.proofs.Common.{min, ◌*◌}
use Rattle.std.proofs.Math.Seq.{take-add}
use Rattle.std.proofs.lemmas.List.{take_more, drop-drop}
use Rattle.std.proofs.lemmas.List.Elements.{filter-append}
use Rattle.std.proofs.lemmas.Int.Digits.{digits_value_push}
use Rattle.std.proofs.Common.{eq-eqb}
use Rattle.std.proofs.lemmas.Bool.{and_parts, and_left, or_right, both_ways, ne_eqb}
use Rattle.ae_vtoken.specs.Scan.{TokenAt, IsSizedAt, is_based}
use Rattle.ae_vtoken.proofs.Spans.{front_fails}
use Rattle.ae_vtoken.proofs.DecimalLemmas.{number_token, digits_then, none_some, decimal_token}

right_false : (a b : Bool) → b ≡ false → (a && b) ≡ false
right_false true b h = h
right_false false b h = refl

left_false : (a b : Bool) → a ≡ false → (a && b) ≡ false
left_false true b h = cc
left_false false b h = refl

no_digits : (size : List ℕ) (k : ℕ) (ds : List ℕ) → are_digits (base_of k) ds ≡ false → sized_of size (k ∷ ds) ≡ None
no_digits size k ds h = cond-false _ _ _ (right_false (not (starts_with nat_eq size (codes "0"))) (are_digits (base_of k) ds) h)

pub no_sized_zero : (size rest : List ℕ) → starts_with nat_eq size (codes "0") ≡ true → NoSized size rest
no_sized_zero size rest h [] after e = refl
no_sized_zero size rest h (k ∷ ds) after e = cond-false _ _ _ (left_false (not (starts_with nat_eq size (codes "0"))) (are_digits (base_of k) ds) (ap not h))

pub no_sized_end : (size : List ℕ) → NoSized size []
no_sized_end size [] after e = refl
no_sized_end size (k ∷ ds) after e = cc

pub no_sized_digit : (size : List ℕ) (k : ℕ) (rest : List ℕ) → ((c : ℕ) (more : List ℕ) → rest ≡ c ∷ more → nat_lt (digit_value c) (base_of k) ≡ false)
    → NoSized size (k ∷ rest)
no_sized_digit size k rest h [] after e = refl
no_sized_digit size k rest h (x ∷ []) after e = no_digits size x [] refl
no_sized_digit size k rest h (x ∷ d ∷ ds) after e =
    let same : k ≡ x = cc in
    let tail : rest ≡ d ∷ ds ++ after = cc in
    let small : nat_lt (digit_value d) (base_of x) ≡ false = subst (λ k. nat_lt (digit_value d) (base_of k) ≡ false) same (h d (ds ++ after) tail) in
    no_digits size x (d ∷ ds) (left_false (nat_lt (digit_value d) (base_of x)) (list_all (λ c. (c == 95) || nat_lt (digit_value c) (base_of x)) ds) small)

-- a decimal ends where no digit stands, and no quote that makes a constant
pub decimal_ends_there : (b : ℕ) (xs rest : List ℕ) → is_word_start b ≡ false → is_ascii_digit b ≡ true → list_all is_ascii_digit xs ≡ true
    → ((c : ℕ) (more : List ℕ) → rest ≡ c ∷ more → (is_ascii_digit c ≡ false) × (((c == 39) ≡ false) ⊎ NoSized (b ∷ xs) more)) → IsLongest (b ∷ xs) rest
decimal_ends_there b xs rest letter digit all ends [] after e some = refl
decimal_ends_there b xs rest letter digit all ends (c ∷ more) after e some =
    let here = ends c (more ++ after) e in
    absurd (none_some _ (number_token b (xs ++ c ∷ more) letter digit ∙ digits_then (b ∷ []) xs (c ∷ more) all ∙ cond-false _ _ _ here.0 ∙ past_quote here.1)
    some)
  where
    past_quote : (((c == 39) ≡ false) ⊎ NoSized (b ∷ xs) (more ++ after)) → cond (c == 39) (sized_of (b ∷ xs) more) None ≡ None
    past_quote (inl none) = cond-false _ _ _ none
    past_quote (inr no_size) = elim (cases_Bool (c == 39)) [
      | inl quote ↦ cond-true _ _ _ quote ∙ no_size more after refl
      | inr none ↦ cond-false _ _ _ none
    ]

-- a constant
pub sized_token : (b : ℕ) (xs : List ℕ) (k : ℕ) (ds : List ℕ) → is_word_start b ≡ false → is_ascii_digit b ≡ true → list_all is_ascii_digit xs ≡ true
    → starts_with nat_eq (b ∷ xs) (codes "0") ≡ false → are_digits (base_of k) ds ≡ true
    → token_of (b ∷ xs ++ 39 ∷ k ∷ ds) ≡ Some (constant (digits_value 10 (b ∷ xs)) (digits_value (base_of k) (filter (λ c. not (c == 95)) ds)))
sized_token b xs k ds letter digit all size digits =
    number_token b (xs ++ 39 ∷ k ∷ ds) letter digit ∙ digits_then (b ∷ []) xs (39 ∷ k ∷ ds) all ∙
    cond-true _ _ _ (ap (λ t. not t && are_digits (base_of k) ds) size ∙ digits)

-- and where it ends
pub sized_ends : (b : ℕ) (xs : List ℕ) (k d : ℕ) (ds rest : List ℕ) → is_word_start b ≡ false → is_ascii_digit b ≡ true → list_all is_ascii_digit xs ≡ true
    → ((c : ℕ) (more : List ℕ) → rest ≡ c ∷ more → ((c == 95) || nat_lt (digit_value c) (base_of k)) ≡ false) → IsLongest (b ∷ xs ++ 39 ∷ k ∷ d ∷ ds) rest
sized_ends b xs k d ds rest letter digit all ends [] after e some = refl
sized_ends b xs k d ds rest letter digit all ends (c ∷ more) after e some =
    let q : ℕ → Bool = λ c. (c == 95) || nat_lt (digit_value c) (base_of k) in
    let tail : list_all q (ds ++ (c ∷ more)) ≡ false = list_all-append q ds (c ∷ more) ∙
    right_false (list_all q ds) (q c && list_all q more) (left_false (q c) (list_all q more) (ends c (more ++ after) e)) in
    let digits : are_digits (base_of k) (d ∷ (ds ++ (c ∷ more))) ≡ false = right_false (nat_lt (digit_value d) (base_of k))
    (list_all q (ds ++ (c ∷ more))) tail in
    let longer : List ℕ = 39 ∷ k ∷ d ∷ (ds ++ (c ∷ more)) in
    let apart : b ∷ ((xs ++ (39 ∷ k ∷ d ∷ ds)) ++ (c ∷ more)) ≡ b ∷ (xs ++ longer) = ap (λ l. b ∷ l) (append_assoc xs (39 ∷ k ∷ d ∷ ds) (c ∷ more)) in
    absurd (none_some _ (ap token_of apart ∙ number_token b (xs ++ longer) letter digit ∙ digits_then (b ∷ []) xs longer all ∙
    no_digits (b ∷ xs) k (d ∷ (ds ++ (c ∷ more))) digits) some)

-- the same at a place
pub no_sized_short : (text : List ℕ) (at : ℕ) → length text ≤ at + 1 → (size : List ℕ) → NoSized size (drop at text)
no_sized_short text at short size = elim (cases_lt at (length text)) [
  | inl within ↦ subst (NoSized size) (sym (drop_more text at 0 within ∙ ap (λ l. get_or text at 0 ∷ l) (drop_past text (at + 1) short)))
      (no_sized_digit size (get_or text at 0) [] (λ c more e. cc))
  | inr past ↦ subst (NoSized size) (sym (drop_past text at past)) (no_sized_end size)
]

pub no_sized_at : (text : List ℕ) (at : ℕ) → at + 1 < length text → nat_lt (digit_value (get_or text (at + 1) 0)) (base_of (get_or text at 0)) ≡ false
    → (size : List ℕ) → NoSized size (drop at text)
no_sized_at text at within small size =
    let first : (c : ℕ) (more : List ℕ) → drop (at + 1) text ≡ c ∷ more → nat_lt (digit_value c) (base_of (get_or text at 0)) ≡ false =
    λ c more e. let front : get_or text (at + 1) 0 ∷ drop (at + 1 + 1) text ≡ c ∷ more = sym (drop_more text (at + 1) 0 within) ∙ e in
    let same : get_or text (at + 1) 0 ≡ c = cc in
    subst (λ c. nat_lt (digit_value c) (base_of (get_or text at 0)) ≡ false) same small in
    subst (NoSized size) (sym (drop_more text at 0 (omega (arith, within)))) (no_sized_digit size (get_or text at 0) (drop (at + 1) text) first)

pub zero_size : (text : List ℕ) (from to : ℕ) → from < to → to ≤ length text → get_or text from 0 ≡ 48 → (rest : List ℕ)
    → NoSized (take (to - from) (drop from text)) rest
zero_size text from to past end first rest =
    let piece = piece_cons text from to (omega (arith, past, end)) (omega (arith, past)) in
    subst (λ p. NoSized p rest) (sym piece) (subst (λ b. NoSized (b ∷ take (to - (from + 1)) (drop (from + 1) text)) rest) (sym first)
    (no_sized_zero (48 ∷ take (to - (from + 1)) (drop (from + 1) text)) rest refl))

pub decimal_there : (text : List ℕ) (from to : ℕ) → from < length text → from + 1 ≤ to → to ≤ length text → is_word_start (get_or text from 0) ≡ false
    → is_ascii_digit (get_or text from 0) ≡ true → list_all is_ascii_digit (take (to - (from + 1)) (drop (from + 1) text)) ≡ true
    → (to < length text → is_ascii_digit (get_or text to 0) ≡ false)
    → (to < length text → ((get_or text to 0 == 39) ≡ false) ⊎ NoSized (take (to - from) (drop from text)) (drop (to + 1) text))
    → TokenAt text from to (decimal_of (take (to - from) (drop from text)))
decimal_there text from to within past end letter digit all ends no_quote =
    let b : ℕ = get_or text from 0 in
    let bs : List ℕ = take (to - (from + 1)) (drop (from + 1) text) in
    let piece = piece_cons text from to within past in
    let behind : (c : ℕ) (more : List ℕ) → drop to text ≡ c ∷ more → (is_ascii_digit c ≡ false) × (((c == 39) ≡ false) ⊎ NoSized (b ∷ bs) more) = λ c more e.
    let size : length text - to ≡ suc (length more) = sym (length-drop to text) ∙ ap length e in
    let inside : to < length text = omega (arith, size) in
    let front : get_or text to 0 ∷ drop (to + 1) text ≡ c ∷ more = sym (drop_more text to 0 inside) ∙ e in
    let same : get_or text to 0 ≡ c = cc in
    let rest : drop (to + 1) text ≡ more = cc in
    let quote = subst (λ p. ((get_or text to 0 == 39) ≡ false) ⊎ NoSized p (drop (to + 1) text)) piece (no_quote inside) in
    let there = subst (λ l. ((get_or text to 0 == 39) ≡ false) ⊎ NoSized (b ∷ bs) l) rest quote in
    subst (λ c. (is_ascii_digit c ≡ false) × (((c == 39) ≡ false) ⊎ NoSized (b ∷ bs) more)) same (ends inside, there) in
    record {
      past = omega (arith, past);
      within = end;
      token = ap token_of piece ∙ decimal_token b bs letter digit all ∙ ap (λ p. Some (decimal_of p)) (sym piece);
      longest = subst (λ p. IsLongest p (drop to text)) (sym piece) (decimal_ends_there b bs (drop to text) letter digit all behind);
    }

pub below_base : (d v b w : ℕ) → d ≡ v → b ≡ w → nat_lt d b ≡ nat_lt v w
below_base d v b w e f = cc

-- the value of digits among `_`, capped

abbrev pub digits_of : List ℕ → List ℕ
digits_of ds = filter (λ c. not (c == 95)) ds

pub capped_digit : (v w b d m : ℕ) → v ≡ min w m → min (v * b + d) m ≡ min (w * b + d) m
capped_digit v w b d m h = elim (cases_lt m w) [
  | inl past ↦ big b past
  | inr small ↦ let e : v ≡ w = omega arith in ap (λ v. min (v * b + d) m) e
]
  where
    big : (b : ℕ) → m < w → min (v * b + d) m ≡ min (w * b + d) m
    big zero past = omega arith
    big (suc b) past = omega arith

pub based_more : (base m : ℕ) (ds : List ℕ) (i v w : ℕ) → i < length ds → v ≡ min (digits_value base (digits_of (take i ds))) m
    → ((get_or ds i 0 == 95) ≡ true → w ≡ v) → ((get_or ds i 0 == 95) ≡ false → w ≡ min (v * base + digit_value (get_or ds i 0)) m)
    → w ≡ min (digits_value base (digits_of (take (i + 1) ds))) m
based_more base m ds i v w within h kept grown =
    let c : ℕ = get_or ds i 0 in
    let step : digits_of (take (i + 1) ds) ≡ digits_of (take i ds) ++ digits_of (c ∷ []) = ap digits_of (take_more ds i 0 within) ∙
    filter-append (λ c. not (c == 95)) (take i ds) (c ∷ []) in
    elim (cases_Bool (c == 95)) [
      | inl under ↦
          let none : digits_of (c ∷ []) ≡ [] = cond-false _ _ _ (ap not under) in
          kept under ∙ h ∙ ap (λ l. min (digits_value base l) m) (sym (step ∙ ap (λ l. digits_of (take i ds) ++ l) none ∙ append-nil (digits_of (take i ds))))
      | inr digit ↦
          let one : digits_of (c ∷ []) ≡ c ∷ [] = cond-true _ _ _ (ap not digit) in
          grown digit ∙ capped_digit v (digits_value base (digits_of (take i ds))) base (digit_value c) m h
          ∙ ap (λ n. min n m) (sym (ap (digits_value base) (step ∙ ap (λ l. digits_of (take i ds) ++ l) one) ∙
          digits_value_push base (digits_of (take i ds)) c))
    ]

-- a constant stands here
pub sized_here : (text : List ℕ) (from quote to : ℕ) → IsSizedAt text from quote → is_word_start (get_or text from 0) ≡ false
    → list_all is_ascii_digit (take (quote - from) (drop from text)) ≡ true → quote + 2 ≤ to → to ≤ length text
    → list_all (is_based (base_of (get_or text (quote + 1) 0))) (take (to - (quote + 2)) (drop (quote + 2) text)) ≡ true
    → (to < length text → is_based (base_of (get_or text (quote + 1) 0)) (get_or text to 0) ≡ false)
    → TokenAt text from to (constant (digits_value 10 (take (quote - from) (drop from text)))
    (digits_value (base_of (get_or text (quote + 1) 0)) (digits_of (take (to - (quote + 2)) (drop (quote + 2) text)))))
sized_here text from quote to here letter digits past end based ends =
    let b : ℕ = get_or text from 0 in
    let k : ℕ = get_or text (quote + 1) 0 in
    let d : ℕ = get_or text (quote + 2) 0 in
    let first : is_based (base_of k) d ≡ true = or_right (d == 95) _ here.digit in
    let room = here.within in
    let before = here.past in
    let more : quote + 3 ≤ to = elim (cases_lt (quote + 2) to) [
      | inl more ↦ omega (arith, more)
      | inr less ↦ let same : to ≡ quote + 2 = omega (arith, less, past) in
          absurd (both_ways _ (subst (λ n. is_based (base_of k) (get_or text n 0) ≡ false) same (ends (omega (arith, room, same)))) first)
    ] in
    let xs : List ℕ = take (quote - (from + 1)) (drop (from + 1) text) in
    let ds : List ℕ = take (to - (quote + 2 + 1)) (drop (quote + 2 + 1) text) in
    let size_is : take (quote - from) (drop from text) ≡ b ∷ xs = piece_cons text from quote (omega (arith, before, room)) (omega (arith, before)) in
    let digits_are : take (to - (quote + 2)) (drop (quote + 2) text) ≡ d ∷ ds = piece_cons text (quote + 2) to room (omega (arith, more)) in
    let size_digits = and_parts (is_ascii_digit b) (list_all is_ascii_digit xs) (ap (list_all is_ascii_digit) (sym size_is) ∙ digits) in
    let base_digits = and_parts (is_based (base_of k) d) (list_all (is_based (base_of k)) ds) (ap (list_all (is_based (base_of k))) (sym digits_are) ∙ based) in
    let behind : take (to - quote) (drop quote text) ≡ 39 ∷ k ∷ d ∷ ds =
    piece_cons text quote to (omega (arith, room)) (omega (arith, more))
    ∙ ap (λ c. c ∷ take (to - (quote + 1)) (drop (quote + 1) text)) here.mark
    ∙ ap (λ l. 39 ∷ l) (piece_cons text (quote + 1) to (omega (arith, room)) (omega (arith, more)))
    ∙ ap (λ n. 39 ∷ k ∷ take (to - n) (drop n text)) (let e : quote + 1 + 1 ≡ quote + 2 = omega arith in e)
    ∙ ap (λ l. 39 ∷ k ∷ l) digits_are in
    let whole : take (to - from) (drop from text) ≡ b ∷ xs ++ 39 ∷ k ∷ d ∷ ds =
    ap (λ n. take n (drop from text)) (let e : to - from ≡ (quote - from) + (to - quote) = omega (arith, before, more) in e)
    ∙ take-add (quote - from) (to - quote) (drop from text)
    ∙ ap (λ l. take (quote - from) (drop from text) ++ take (to - quote) l)
    (drop-drop (quote - from) from text ∙ ap (λ n. drop n text) (let e : from + (quote - from) ≡ quote = omega (arith, before) in e))
    ∙ ap (λ l. take (quote - from) (drop from text) ++ l) behind
    ∙ ap (λ l. l ++ 39 ∷ k ∷ d ∷ ds) size_is in
    record {
      past = omega (arith, before, more);
      within = end;
      token = ap token_of whole
          ∙ sized_token b xs k (d ∷ ds) letter size_digits.0 size_digits.1 (no_zero b xs here.size)
          (ap (λ t. t && list_all (is_based (base_of k)) ds) here.digit ∙ base_digits.1)
          ∙ ap (λ l. Some (constant (digits_value 10 l) (digits_value (base_of k) (digits_of (d ∷ ds))))) (sym size_is)
          ∙ ap (λ l. Some (constant (digits_value 10 (take (quote - from) (drop from text))) (digits_value (base_of k) (digits_of l)))) (sym digits_are);
      longest = subst (λ p. IsLongest p (drop to text)) (sym whole)
          (sized_ends b xs k d ds (drop to text) letter size_digits.0 size_digits.1 (front_fails (is_based (base_of k)) text to ends));
    }
  where
    no_zero : (b : ℕ) (xs : List ℕ) → (b == 48) ≡ false → starts_with nat_eq (b ∷ xs) (codes "0") ≡ false
    no_zero b xs h = and_left _ _ (ne_eqb 48 b (λ e. both_ways _ h (eq-eqb b 48 (sym e))))

pub sized_by : (text : List ℕ) (from quote to base : ℕ) → base ≡ base_of (get_or text (quote + 1) 0) → IsSizedAt text from quote
    → is_word_start (get_or text from 0) ≡ false → list_all is_ascii_digit (take (quote - from) (drop from text)) ≡ true → quote + 2 ≤ to → to ≤ length text
    → list_all (is_based base) (take (to - (quote + 2)) (drop (quote + 2) text)) ≡ true → (to < length text → is_based base (get_or text to 0) ≡ false)
    → TokenAt text from to (constant (digits_value 10 (take (quote - from) (drop from text)))
    (digits_value base (digits_of (take (to - (quote + 2)) (drop (quote + 2) text)))))
sized_by text from quote to base same here letter digits past end based ends =
    subst (λ n. list_all (is_based n) (take (to - (quote + 2)) (drop (quote + 2) text)) ≡ true → (to < length text → is_based n (get_or text to 0) ≡ false)
    → TokenAt text from to (constant (digits_value 10 (take (quote - from) (drop from text)))
    (digits_value n (digits_of (take (to - (quote + 2)) (drop (quote + 2) text))))))
    (sym same) (sized_here text from quote to here letter digits past end) based ends
