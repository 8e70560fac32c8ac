-- The pieces that the writer writes, and which tokens they are.
use Rattle.std.proofs.Common.{◌≡◌, ℕ, zero, suc, ◌+◌, ◌/◌, ◌%◌, ◌<◌, ◌≤◌, ◌^◌, List, [], ◌∷◌, ◌++◌, length, get_or, Bool, true, false, Some, None, refl, sym, ap, ◌∙◌, subst, arith, append_assoc, append-nil, inl, inr}
use Rattle.std.specs.Prelude.{◌||◌, not, min, codes, bytes_eq, nat_lt, nat_eq, ◌==◌, decimal, filter, if◌then◌else◌}
use Rattle.std.specs.Fmt.{digits, digits_onto, digit_glyph}
use Rattle.std.specs.List.{list_all, list_any, starts_with}
use Rattle.std.specs.Char.{is_ascii_digit, digit_value}
use Rattle.std.specs.Str.Parse.{digits_value}
use Rattle.std.proofs.lemmas.Bool.{and_parts, or_cases, both_ways, and_from, or_left, or_right, cond-true, cond-false, lt-ltb, le-leb, ne_eqb, and_left, false_from_ne_true}
use Rattle.std.proofs.lemmas.Bool.Decides.{nat_tests}
use Rattle.std.proofs.lemmas.Fmt.{decimal_is_IsNumeral, first_decimal, decimal_digit}
use Rattle.std.proofs.lemmas.Slice.Eq.{bytes_eq-Decides}
use Rattle.std.proofs.lemmas.List.Folds.{list_all-append}
use Rattle.ae_vtoken.specs.declared.token.Key.{Key}
use Rattle.ae_vtoken.specs.Tables.{keys, unused_0, unused_1, unused_2, unused_3, unused_4, unused_5, unused_6, unused_7, unused_8, unused_9}
use Rattle.ae_vtoken.specs.Tokens.{Name, Decimal, Sized, look_up, is_unused, is_word_start, is_word_byte, word_of, are_digits, number_from, decimal_of, token_of, constant}
use Rattle.ae_vread.specs.ExprForms.{NumberForm, ZeroForm, DecimalForm, number_token}
use Rattle.ae_verilog.specs.ReportLines.{is_clean}
use Rattle.ae_vtoken.proofs.MarkLemmas.{of_key}

-- a text without % and $
pub record IsClean (text : List ℕ) : Type 0 where
  pub all : list_all is_clean text ≡ true

pub clean_both : (xs ys : List ℕ) → IsClean xs → IsClean ys → IsClean (xs ++ ys)
clean_both xs ys hx hy = record { all = list_all-append is_clean xs ys ∙ and_from _ _ hx.all hy.all }

-- a text of given bytes before another
pub clean_then : (xs ys : List ℕ) → list_all is_clean xs ≡ true → IsClean ys → IsClean (xs ++ ys)
clean_then xs ys hx hy = clean_both xs ys (record { all = hx }) hy

pub clean_from : (q : ℕ → Bool) (xs : List ℕ) → ((b : ℕ) → q b ≡ true → is_clean b ≡ true) → list_all q xs ≡ true → list_all is_clean xs ≡ true
clean_from q [] each h = refl
clean_from q (x ∷ xs) each h = let parts = and_parts _ (list_all q xs) h in and_from _ _ (each x parts.0) (clean_from q xs each parts.1)

-- a text of digits has at least one, and each byte is a digit
pub record IsDigits (ds : List ℕ) : Type 0 where
  pub some : 0 < length ds
  pub all : list_all is_ascii_digit ds ≡ true

glyph_digit : (d : ℕ) → d < 10 → is_ascii_digit (digit_glyph false d) ≡ true
glyph_digit d h = subst (λ b. is_ascii_digit b ≡ true) (sym (cond-true _ _ _ (lt-ltb d 10 h))) (shown d h)
  where
    shown : (d : ℕ) → d < 10 → is_ascii_digit (48 + d) ≡ true
    shown d h = grind (arith, nat_tests)

one_more : (n : ℕ) (ds : List ℕ) → list_all is_ascii_digit ds ≡ true → IsDigits (digit_glyph false (n % 10) ∷ ds)
one_more n ds h = record { some = omega arith; all = and_from _ _ (glyph_digit (n % 10) (omega arith)) h }

either_digits : (t : Bool) (xs ys : List ℕ) → IsDigits xs → IsDigits ys → IsDigits (if t then xs else ys)
either_digits true xs ys hx hy = hx
either_digits false xs ys hx hy = hy

onto_digits : (k n : ℕ) (ds : List ℕ) → IsDigits ds → IsDigits (digits_onto k 10 false n ds)
onto_digits zero n ds h = h
onto_digits (suc k) n ds h =
    let more = one_more n ds h.all in
    either_digits (n / 10 == 0) _ _ more (onto_digits k (n / 10) (digit_glyph false (n % 10) ∷ ds) more)

-- however large the number is
pub decimal_digits : (n : ℕ) → IsDigits (decimal n)
unfolding digits
decimal_digits n =
    let more = one_more n [] refl in
    either_digits (n / 10 == 0) _ _ more (onto_digits 63 (n / 10) (digit_glyph false (n % 10) ∷ []) more)

digit_clean : (b : ℕ) → is_ascii_digit b ≡ true → is_clean b ≡ true
digit_clean b h = grind (arith, nat_tests)

pub decimal_clean : (n : ℕ) → IsClean (decimal n)
decimal_clean n = record { all = clean_from is_ascii_digit (decimal n) digit_clean (decimal_digits n).all }

-- what follows digits
number_on : (ds cs rest : List ℕ) → list_all is_ascii_digit cs ≡ true → number_from ds (cs ++ rest) ≡ number_from (ds ++ cs) rest
number_on ds [] rest h = ap (λ l. number_from l rest) (sym (append-nil ds))
number_on ds (c ∷ cs) rest h =
    let parts = and_parts _ (list_all is_ascii_digit cs) h in
    cond-true _ _ _ parts.0 ∙ number_on (ds ++ c ∷ []) cs rest parts.1 ∙ ap (λ l. number_from l rest) (append_assoc ds (c ∷ []) cs)

digit_no_letter : (d : ℕ) → is_ascii_digit d ≡ true → is_word_start d ≡ false
digit_no_letter d h = grind (arith, nat_tests)

-- a piece that begins with digits
number_piece : (ds rest : List ℕ) → IsDigits ds → token_of (ds ++ rest) ≡ number_from ds rest
unfolding token_of
number_piece [] rest h = absurd (omega (arith, h.some))
number_piece (d ∷ ds) rest h =
    let parts = and_parts _ (list_all is_ascii_digit ds) h.all in
    cond-false _ _ _ (digit_no_letter d parts.0) ∙ cond-true _ _ _ parts.0 ∙ number_on (d ∷ []) ds rest parts.1

-- the form of a number
abbrev pub number_form : ℕ → NumberForm
number_form zero = ZeroForm
number_form (suc n) = DecimalForm (suc n)

zero_front : (ds : List ℕ) → 48 < get_or ds 0 0 → starts_with nat_eq ds (codes "0") ≡ false
zero_front [] h = refl
zero_front (d ∷ ds) h = and_left _ _ (ne_eqb 48 d (λ e. omega arith))

no_zero : (ds : List ℕ) → 48 < get_or ds 0 0 → bytes_eq ds (codes "0") ≡ false
no_zero ds h = false_from_ne_true _ (λ e. let same = (bytes_eq-Decides ds (codes "0")).0 e in omega (arith, subst (λ l. 48 < get_or l 0 0) same h))

decimal_whole : (n : ℕ) → n < 2 ^ 32 → decimal_of (decimal n) ≡ number_token (number_form n)
decimal_whole zero h = ap decimal_of (decimal_digit 0 (omega arith))
decimal_whole (suc n) h =
    cond-false _ _ _ (no_zero (decimal (suc n)) (first_decimal (suc n) (omega arith) (omega arith)))
    ∙ ap (λ v. Decimal (min v 4294967295)) (decimal_is_IsNumeral (suc n) (omega arith)).1
    ∙ ap Decimal (let e : min (suc n) 4294967295 ≡ suc n = omega arith in e)

pub decimal_token : (n : ℕ) → n < 2 ^ 32 → token_of (decimal n) ≡ Some (number_token (number_form n))
decimal_token n h =
    ap token_of (sym (append-nil (decimal n))) ∙ number_piece (decimal n) [] (decimal_digits n)
    ∙ ap Some (decimal_whole n h)

no_underscore : (ds : List ℕ) → list_all is_ascii_digit ds ≡ true → filter (λ c. not (c == 95)) ds ≡ ds
no_underscore [] h = refl
no_underscore (d ∷ ds) h =
    let parts = and_parts _ (list_all is_ascii_digit ds) h in
    let other : not (d == 95) ≡ true = grind (arith, nat_tests) in
    cond-true _ _ _ other ∙ ap (λ l. d ∷ l) (no_underscore ds parts.1)

ten_digits : (ds : List ℕ) → IsDigits ds → are_digits 10 ds ≡ true
ten_digits [] h = absurd (omega (arith, h.some))
ten_digits (d ∷ ds) h =
    let parts = and_parts _ (list_all is_ascii_digit ds) h.all in
    and_from _ _ (below d parts.0) (later ds parts.1)
  where
    below : (d : ℕ) → is_ascii_digit d ≡ true → nat_lt (digit_value d) 10 ≡ true
    below d h = grind (arith, nat_tests)

    later : (ds : List ℕ) → list_all is_ascii_digit ds ≡ true → list_all (λ c. (c == 95) || nat_lt (digit_value c) 10) ds ≡ true
    later [] h = refl
    later (d ∷ ds) h = let parts = and_parts _ (list_all is_ascii_digit ds) h in and_from _ _ (or_right (d == 95) _ (below d parts.0)) (later ds parts.1)

fitting : (w v : ℕ) → w ≤ 64 → v < 2 ^ w → constant w v ≡ Sized w v true
fitting w v small fits = cond-true _ _ _ (and_from _ _ (le-leb w 64 small) (lt-ltb v (2 ^ w) fits))

pub sized_token : (w v : ℕ) → 0 < w → w ≤ 64 → v < 2 ^ w → v < 2 ^ 64 → token_of (decimal w ++ (codes "'d" ++ decimal v)) ≡ Some (Sized w v true)
sized_token w v positive small fits fits64 =
    let w64 : w < 2 ^ 64 = omega arith in
    let digits = decimal_digits v in
    number_piece (decimal w) (codes "'d" ++ decimal v) (decimal_digits w)
    ∙ cond-true _ _ _ (and_from _ _ (ap not (zero_front (decimal w) (first_decimal w positive w64))) (ten_digits (decimal v) digits))
    ∙ ap Some (
    ap (λ m. constant m (digits_value 10 (filter (λ c. not (c == 95)) (decimal v)))) (decimal_is_IsNumeral w w64).1
    ∙ ap (λ n. constant w n) (ap (digits_value 10) (no_underscore (decimal v) digits.all) ∙ (decimal_is_IsNumeral v fits64).1)
    ∙ fitting w v small fits)

-- a letter and then a digit or _ is no reserved word

abbrev is_mark : ℕ → Bool
is_mark d = is_ascii_digit d || (d == 95)

abbrev pub starts_marked : List ℕ → Bool
starts_marked [] = false
starts_marked (d ∷ ds) = is_mark d

abbrev no_mark_second : List ℕ → Bool
no_mark_second [] = true
no_mark_second (b ∷ ds) = not (starts_marked ds)

of_word : (q : List ℕ → Bool) (bs : List ℕ) (ws : List (List ℕ)) → list_any (bytes_eq bs) ws ≡ true → list_all q ws ≡ true → q bs ≡ true
of_word q bs [] h all = absurd (both_ways _ refl h)
of_word q bs (w ∷ ws) h all =
    let parts = and_parts (q w) (list_all q ws) all in
    elim (or_cases _ _ h) [ inl same ↦ ap q ((bytes_eq-Decides bs w).0 same) ∙ parts.0 | inr later ↦ of_word q bs ws later parts.1 ]

unused_second : (bs : List ℕ) → is_unused bs ≡ true → no_mark_second bs ≡ true
unfolding unused_0 unused_1 unused_2 unused_3 unused_4 unused_5 unused_6 unused_7 unused_8 unused_9
unused_second bs h =
    one unused_0 _ h refl (λ h. one unused_1 _ h refl (λ h. one unused_2 _ h refl (λ h. one unused_3 _ h refl
    (λ h. one unused_4 _ h refl (λ h. one unused_5 _ h refl (λ h. one unused_6 _ h refl (λ h. one unused_7 _ h refl
    (λ h. one unused_8 _ h refl (λ h. of_word no_mark_second bs unused_9 h refl)))))))))
  where
    one : (ws : List (List ℕ)) (t : Bool) → (list_any (bytes_eq bs) ws || t) ≡ true → list_all no_mark_second ws ≡ true → (t ≡ true → no_mark_second bs ≡ true)
        → no_mark_second bs ≡ true
    one ws t h all later = elim (or_cases _ _ h) [ inl here ↦ of_word no_mark_second bs ws here all | inr there ↦ later there ]

keys_second : (bs : List ℕ) (k : Key) → look_up bs keys ≡ Some k → no_mark_second bs ≡ true
unfolding keys
keys_second bs k h = of_key no_mark_second bs keys k h refl

no_key : (bs : List ℕ) → no_mark_second bs ≡ false → look_up bs keys ≡ None
no_key bs h = elim (look_up bs keys) as (λ o. look_up bs keys ≡ o → o ≡ None) [
  | None ↦ λ e. refl
  | Some k ↦ λ e. absurd (both_ways _ h (keys_second bs k e))
] refl

-- a name, as the writer writes it
pub record IsNameText (n : List ℕ) : Type 0 where
  pub first : ℕ
  pub more : List ℕ
  pub whole : n ≡ first ∷ more
  pub letter : is_word_start first ≡ true
  pub token : token_of n ≡ Some (Name n)
  pub clean : IsClean n

word_clean : (b : ℕ) → (is_word_start b || is_mark b) ≡ true → is_clean b ≡ true
word_clean b h = grind (arith, nat_tests)

abbrev pub is_name_byte : ℕ → Bool
is_name_byte b = is_word_start b || is_mark b

name_byte : (b : ℕ) → is_name_byte b ≡ true → is_word_byte b ≡ true
name_byte b h = grind (arith, nat_tests)

word_bytes : (bs : List ℕ) → list_all is_name_byte bs ≡ true → list_all is_word_byte bs ≡ true
word_bytes [] h = refl
word_bytes (b ∷ bs) h = let parts = and_parts _ (list_all is_name_byte bs) h in and_from _ _ (name_byte b parts.0) (word_bytes bs parts.1)

marked_token : (b : ℕ) (ds : List ℕ) → is_word_start b ≡ true → starts_marked ds ≡ true → list_all is_name_byte ds ≡ true
    → token_of (b ∷ ds) ≡ Some (Name (b ∷ ds))
unfolding token_of
marked_token b ds letter marked bytes =
    let second : no_mark_second (b ∷ ds) ≡ false = ap not marked in
    let unused : is_unused (b ∷ ds) ≡ false = false_from_ne_true _ (λ e. both_ways _ second (unused_second (b ∷ ds) e)) in
    cond-true _ _ _ letter ∙ cond-true _ _ _ (word_bytes ds bytes)
    ∙ ap (λ o. Some (word_of (b ∷ ds) o)) (no_key (b ∷ ds) second)
    ∙ ap Some (cond-false _ _ _ unused)

-- a letter, then a digit or _, then letters, digits and _
pub marked_name : (b : ℕ) (ds : List ℕ) → is_word_start b ≡ true → starts_marked ds ≡ true → list_all is_name_byte ds ≡ true → IsNameText (b ∷ ds)
marked_name b ds letter marked bytes = record {
  first = b;
  more = ds;
  whole = refl;
  letter = letter;
  token = marked_token b ds letter marked bytes;
  clean = record { all = and_from _ _ (word_clean b (or_left _ _ letter)) (clean_from is_name_byte ds word_clean bytes) };
}

digit_name : (b : ℕ) → is_ascii_digit b ≡ true → is_name_byte b ≡ true
digit_name b h = or_right _ _ (or_left _ _ h)

digits_named : (ds : List ℕ) → list_all is_ascii_digit ds ≡ true → list_all is_name_byte ds ≡ true
digits_named [] h = refl
digits_named (d ∷ ds) h = let parts = and_parts _ (list_all is_ascii_digit ds) h in and_from _ _ (digit_name d parts.0) (digits_named ds parts.1)

pub decimal_named : (n : ℕ) → list_all is_name_byte (decimal n) ≡ true
decimal_named n = digits_named (decimal n) (decimal_digits n).all

starts_digits : (ds rest : List ℕ) → IsDigits ds → starts_marked (ds ++ rest) ≡ true
starts_digits [] rest h = absurd (omega (arith, h.some))
starts_digits (d ∷ ds) rest h = or_left _ _ (and_parts _ (list_all is_ascii_digit ds) h.all).0

pub decimal_starts : (n : ℕ) (rest : List ℕ) → starts_marked (decimal n ++ rest) ≡ true
decimal_starts n rest = starts_digits (decimal n) rest (decimal_digits n)

pub named_both : (xs ys : List ℕ) → list_all is_name_byte xs ≡ true → list_all is_name_byte ys ≡ true → list_all is_name_byte (xs ++ ys) ≡ true
named_both xs ys hx hy = list_all-append is_name_byte xs ys ∙ and_from _ _ hx hy

pub number_named : (b n : ℕ) → is_word_start b ≡ true → IsNameText (b ∷ decimal n)
number_named b n letter =
    marked_name b (decimal n) letter (subst (λ l. starts_marked l ≡ true) (append-nil (decimal n)) (decimal_starts n [])) (decimal_named n)
