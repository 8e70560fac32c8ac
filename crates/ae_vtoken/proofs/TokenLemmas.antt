-- Where a token ends, and one token after another.
use Rattle.std.proofs.Common.{◌≡◌, ℕ, ◌≤◌, List, [], ◌∷◌, ◌++◌, Bool, true, false, Some, None, refl, sym, ap, ◌∙◌, arith, lit≤, ⊎_elim, inl, inr, eqb, cond}
use Rattle.std.proofs.lemmas.Bool.Decides.{nat_tests}
use Rattle.std.specs.Prelude.{is_none, ◌||◌, not, IsSome, codes, nat_lt, ◌==◌, option_map}
use Rattle.std.specs.List.{list_all, list_any}
use Rattle.std.specs.Char.{is_ascii_digit, digit_value}
use Rattle.std.proofs.lemmas.Bool.{and_parts, ltb-true, lt-ltb, ne_eqb, or_cases, cases_Bool, both_ways, eqb-true, and_from, or_left, or_right, and_left, false_from_ne_true, cond-true, cond-false, not-true}
use Rattle.std.proofs.lemmas.Option.{cond_some}
use Rattle.ae_vtoken.specs.Tables.{signs}
use Rattle.ae_vtoken.specs.Tokens.{TokenTree, Mark, look_up, is_blank, is_word_start, is_word_byte, after_gap, Between, base_of, are_digits, sized_of, number_from, token_of, IsLongest, AreTokens, No_more, Then}
use Rattle.ae_vtoken.proofs.MarkLemmas.{of_key}

-- a blank, or a sign that is a part of no longer sign
abbrev pub lones : List ℕ
lones = codes " ,;:?@()[]{}+-*" ++ 9 ∷ 10 ∷ 12 ∷ 13 ∷ []

abbrev pub is_lone : ℕ → Bool
is_lone b = list_any (λ c. eqb b c) lones

-- what holds of each of the lone bytes
of_listed : (q : ℕ → Bool) (b : ℕ) (xs : List ℕ) → list_any (λ c. eqb b c) xs ≡ true → list_all q xs ≡ true → q b ≡ true
of_listed q b [] h all = absurd (both_ways _ refl h)
of_listed q b (x ∷ xs) h all =
    let parts = and_parts (q x) (list_all q xs) all in
    ⊎_elim (λ same. ap q (eqb-true b x same) ∙ parts.0) (λ later. of_listed q b xs later parts.1) (or_cases _ _ h)

of_lone : (q : ℕ → Bool) (b : ℕ) → is_lone b ≡ true → list_all q lones ≡ true → q b ≡ true
of_lone q b h all = of_listed q b lones h all

abbrev is_plain : ℕ → Bool
is_plain b = not (is_lone b)

-- a test that fails at each lone byte passes at plain bytes alone
plain_from : (q : ℕ → Bool) (b : ℕ) → list_all (λ c. not (q c)) lones ≡ true → q b ≡ true → is_plain b ≡ true
plain_from q b table h =
    elim (cases_Bool (is_lone b)) [
      | inl lone ↦ absurd (both_ways _ (not-true _ (of_lone (λ c. not (q c)) b lone table)) h)
      | inr plain ↦ ap not plain
    ]

all_plain_from : (q : ℕ → Bool) (bs : List ℕ) → list_all (λ c. not (q c)) lones ≡ true → list_all q bs ≡ true → list_all is_plain bs ≡ true
all_plain_from q [] table h = refl
all_plain_from q (b ∷ bs) table h =
    let parts = and_parts (q b) (list_all q bs) h in
    and_from _ _ (plain_from q b table parts.0) (all_plain_from q bs table parts.1)

-- one byte, or plain bytes alone
abbrev pub holds_together : List ℕ → Bool
holds_together [] = true
holds_together (b ∷ []) = true
holds_together (b ∷ c ∷ bs) = list_all is_plain (b ∷ c ∷ bs)

together_from : (bs : List ℕ) → list_all is_plain bs ≡ true → holds_together bs ≡ true
together_from [] h = refl
together_from (b ∷ []) h = refl
together_from (b ∷ c ∷ bs) h = h

together_signs : list_all (λ e. holds_together e.0) signs ≡ true
unfolding signs
together_signs = refl

-- a base has digits only where it is one, and they are letters and digits
small_if : (t : Bool) (m n : ℕ) → m ≤ 36 → n ≤ 36 → cond t m n ≤ 36
small_if true m n h k = h
small_if false m n h k = k

base_small : (b : ℕ) → base_of b ≤ 36
base_small b =
    small_if ((b == 98) || (b == 66)) 2 _ (lit≤ tt)
    (small_if ((b == 111) || (b == 79)) 8 _ (lit≤ tt)
    (small_if ((b == 100) || (b == 68)) 10 _ (lit≤ tt)
    (small_if ((b == 104) || (b == 72)) 16 0 (lit≤ tt) (lit≤ tt))))

is_base : (base : ℕ) (ds : List ℕ) → are_digits base ds ≡ true → not (eqb base 0) ≡ true
is_base base [] h = cc
is_base base (d ∷ ds) h =
    let below = ltb-true (digit_value d) base (and_parts _ _ h).0 in
    let other : base ≡ 0 → ⊥ = λ e. omega arith in
    ap not (ne_eqb base 0 other)

abbrev is_digit_byte : ℕ → Bool
is_digit_byte c = (c == 95) || nat_lt (digit_value c) 36

digit_byte : (base c : ℕ) → base ≤ 36 → nat_lt (digit_value c) base ≡ true → is_digit_byte c ≡ true
digit_byte base c small h = or_right (c == 95) _ (lt-ltb _ _ (omega (arith, ltb-true (digit_value c) base h)))

plain_tail : (base : ℕ) (ds : List ℕ) → base ≤ 36 → list_all (λ c. (c == 95) || nat_lt (digit_value c) base) ds ≡ true → list_all is_plain ds ≡ true
plain_tail base [] small h = refl
plain_tail base (c ∷ cs) small h =
    let parts = and_parts _ (list_all (λ c. (c == 95) || nat_lt (digit_value c) base) cs) h in
    let here : is_digit_byte c ≡ true = elim (or_cases (c == 95) _ parts.0) [
      | inl under ↦ or_left
          (c == 95) _ under
      | inr digit ↦ digit_byte base c small digit
    ] in
    and_from _ _ (plain_from is_digit_byte c refl here) (plain_tail base cs small parts.1)

plain_digits : (base : ℕ) (ds : List ℕ) → base ≤ 36 → are_digits base ds ≡ true → list_all is_plain ds ≡ true
plain_digits base [] small h = refl
plain_digits base (d ∷ ds) small h =
    let parts = and_parts _ (list_all (λ c. (c == 95) || nat_lt (digit_value c) base) ds) h in
    and_from _ _ (plain_from is_digit_byte d refl (digit_byte base d small parts.0)) (plain_tail base ds small parts.1)

-- after the quote: a letter, and digits of its base
sized_plain : (size bs : List ℕ) (t : TokenTree) → sized_of size bs ≡ Some t → list_all is_plain bs ≡ true
sized_plain size [] t h = cc
sized_plain size (b ∷ ds) t h =
    let digits = (and_parts _ _ (cond_some _ _ _ h).0).1 in
    and_from _ _ (plain_from (λ c. not (eqb (base_of c) 0)) b refl (is_base (base_of b) ds digits)) (plain_digits (base_of b) ds (base_small b) digits)

number_plain : (size bs : List ℕ) (t : TokenTree) → number_from size bs ≡ Some t → list_all is_plain bs ≡ true
number_plain size [] t h = refl
number_plain size (c ∷ cs) t h =
    elim (cases_Bool (is_ascii_digit c)) [
      | inl digit ↦ and_from _ _ (plain_from is_ascii_digit c refl digit) (number_plain (size ++ c ∷ []) cs t (sym (cond-true _ _ _ digit) ∙ h))
      | inr other ↦
          let h' = sym (cond-false _ _ _ other) ∙ h in
          elim (cases_Bool (c == 39)) [
            | inl quote ↦ and_from _ _ (plain_from (λ c. c == 39) c refl quote) (sized_plain size cs t (sym (cond-true _ _ _ quote) ∙ h'))
            | inr none ↦ absurd (none_is_not_some (sym (cond-false _ _ _ none) ∙ h'))
          ]
    ]
  where
    none_is_not_some : {X : Type 0} {x : X} → None ≡ Some x → ⊥
    none_is_not_some e = cc

mark_keys : (bs : List ℕ) (t : TokenTree) → option_map Mark (look_up bs signs) ≡ Some t → holds_together bs ≡ true
mark_keys bs t h = elim (look_up bs signs) as (λ o. look_up bs signs ≡ o → option_map Mark o ≡ Some t → holds_together bs ≡ true) [
  | None ↦ λ e h. cc
  | Some s ↦ λ e h. of_key holds_together bs signs s e together_signs
] refl h

-- a token of two bytes or more has plain bytes alone
pub token_together : (bs : List ℕ) (t : TokenTree) → token_of bs ≡ Some t → holds_together bs ≡ true
unfolding token_of
token_together [] t h = cc
token_together (b ∷ bs) t h =
    elim (cases_Bool (is_word_start b)) [
      | inl letter ↦
          let word = cond_some _ _ _ (sym (cond-true _ _ _ letter) ∙ h) in
          together_from (b ∷ bs) (and_from _ _ (plain_from is_word_start b refl letter) (all_plain_from is_word_byte bs refl word.0))
      | inr other ↦
          let h' = sym (cond-false _ _ _ other) ∙ h in
          elim (cases_Bool (is_ascii_digit b)) [
            | inl digit ↦ together_from (b ∷ bs) (and_from _ _ (plain_from is_ascii_digit b refl digit)
                (number_plain (b ∷ []) bs t (sym (cond-true _ _ _ digit) ∙ h')))
            | inr sign ↦ mark_keys (b ∷ bs) t (sym (cond-false _ _ _ sign) ∙ h')
          ]
    ]

-- a token ends before a lone byte
not_together : (b : ℕ) (piece more : List ℕ) (c : ℕ) → is_lone c ≡ true → holds_together (b ∷ piece ++ c ∷ more) ≡ true → ⊥
not_together b [] more c lone h = both_ways _ (ap not lone) (and_parts _ _ (and_parts _ _ h).1).0
not_together b (d ∷ ds) more c lone h = in_the_rest (d ∷ ds) (and_parts _ _ h).1
  where
    in_the_rest : (ds : List ℕ) → list_all is_plain (ds ++ c ∷ more) ≡ true → ⊥
    in_the_rest [] h = both_ways _ (ap not lone) (and_parts _ _ h).0
    in_the_rest (d ∷ ds) h = in_the_rest ds (and_parts _ _ h).1

pub ends_before_lone : (b : ℕ) (piece : List ℕ) (c : ℕ) (rest : List ℕ) → is_lone c ≡ true → IsLongest (b ∷ piece) (c ∷ rest)
ends_before_lone b piece c rest lone [] after e some = refl
ends_before_lone b piece c rest lone (d ∷ more) after e some =
    let same : c ≡ d = cc in
    elim (token_of (b ∷ piece ++ d ∷ more)) as (λ o. token_of (b ∷ piece ++ d ∷ more) ≡ o → IsSome o → d ∷ more ≡ []) [
      | None ↦ λ e some. cc
      | Some t ↦ λ e some. absurd (not_together b piece more d (ap is_lone (sym same) ∙ lone) (token_together _ t e))
    ] refl some

-- a lone byte is no part of a longer token
pub lone_ends : (b : ℕ) (rest : List ℕ) → is_lone b ≡ true → IsLongest (b ∷ []) rest
lone_ends b rest lone [] after e some = refl
lone_ends b rest lone (d ∷ more) after e some =
    elim (token_of (b ∷ d ∷ more)) as (λ o. token_of (b ∷ d ∷ more) ≡ o → IsSome o → d ∷ more ≡ []) [
      | None ↦ λ e some. cc
      | Some t ↦ λ e some. absurd (both_ways _ (ap not lone) (and_parts _ _ (token_together _ t e)).0)
    ] refl some

no_token_there : (bs : List ℕ) (b : ℕ) → list_any (λ c. eqb b c) (codes " /" ++ 9 ∷ 10 ∷ 12 ∷ 13 ∷ []) ≡ true → is_none (token_of (b ∷ bs)) ≡ true
unfolding token_of signs
no_token_there bs b h = of_listed (λ b. is_none (token_of (b ∷ bs))) b (codes " /" ++ 9 ∷ 10 ∷ 12 ∷ 13 ∷ []) h refl

token_first : (b : ℕ) (bs : List ℕ) (t : TokenTree) → token_of (b ∷ bs) ≡ Some t → list_any (λ c. eqb b c) (codes " /" ++ 9 ∷ 10 ∷ 12 ∷ 13 ∷ []) ≡ false
token_first b bs t h = false_from_ne_true _ (λ e. both_ways _ (ap is_none h) (no_token_there bs b e))

-- nothing is left out before a token
pub no_gap : (b : ℕ) (bs rest : List ℕ) (t : TokenTree) → token_of (b ∷ bs) ≡ Some t → after_gap Between ((b ∷ bs) ++ rest) ≡ (b ∷ bs) ++ rest
no_gap b bs rest t h =
    let first = token_first b bs t h in
    let not_blank : is_blank b ≡ false = grind (arith, nat_tests) in
    let not_slash : b ≡ 47 → ⊥ = λ e. grind (arith, nat_tests) in
    let other : (47 == b) ≡ false = ne_eqb 47 b (λ e. not_slash (sym e)) in
    cond-false _ _ _ not_blank ∙ cond-false _ _ _ (and_left _ _ other) ∙ cond-false _ _ _ (and_left _ _ other)

-- a blank before the tokens
pub blank_then : (b : ℕ) (rest : List ℕ) (ts : List TokenTree) → is_blank b ≡ true → AreTokens rest ts → AreTokens (b ∷ rest) ts
blank_then b rest _ blank (No_more text h) = No_more _ (cond-true _ _ _ blank ∙ h)
blank_then b rest _ blank (Then text piece later t ts begins h) =
    Then _ piece later t ts (record { parts = cond-true _ _ _ blank ∙ begins.parts; token = begins.token; longest = begins.longest }) h

-- a token before the tokens
pub token_then : (b : ℕ) (bs rest : List ℕ) (t : TokenTree) (ts : List TokenTree) → token_of (b ∷ bs) ≡ Some t → IsLongest (b ∷ bs) rest → AreTokens rest ts
    → AreTokens ((b ∷ bs) ++ rest) (t ∷ ts)
token_then b bs rest t ts h longest then = Then _ (b ∷ bs) rest t ts (record { parts = no_gap b bs rest t h; token = h; longest = longest }) then

-- a token before a lone byte
pub spaced : (piece : List ℕ) (c : ℕ) (rest : List ℕ) (t : TokenTree) (ts : List TokenTree) → token_of piece ≡ Some t → is_lone c ≡ true
    → AreTokens (c ∷ rest) ts → AreTokens (piece ++ c ∷ rest) (t ∷ ts)
unfolding token_of
spaced [] c rest t ts h lone then = absurd (let e : None ≡ Some t = h in cc)
spaced (b ∷ bs) c rest t ts h lone then = token_then b bs (c ∷ rest) t ts h (ends_before_lone b bs c rest lone) then

-- a sign that is no part of a longer one
pub mark : (b : ℕ) (rest : List ℕ) (t : TokenTree) (ts : List TokenTree) → token_of (b ∷ []) ≡ Some t → is_lone b ≡ true → AreTokens rest ts
    → AreTokens (b ∷ rest) (t ∷ ts)
mark b rest t ts h lone then = token_then b [] rest t ts h (lone_ends b rest lone) then
