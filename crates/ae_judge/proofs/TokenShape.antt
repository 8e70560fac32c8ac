-- What the tokens of a text have: a name has letters, a constant fits, and there are at most as many as bytes.
use Rattle.std.proofs.Common.{ℕ, ◌≡◌, ◌+◌, ◌*◌, ◌<◌, ◌≤◌, ◌^◌, ◌==◌, Bool, true, false, not, ◌&&◌, List, [], ◌∷◌, ◌++◌, length, Option, Some, None, if◌then◌else◌, nat_lt, nat_le, nat_eq, refl, sym, ap, ◌∙◌, subst, inl, inr, arith, length-append}
use Rattle.std.specs.Prelude.{option_map, bytes_eq, codes, filter, min}
use Rattle.std.specs.List.{list_all, starts_with}
use Rattle.std.specs.Char.{is_ascii_digit, digit_value}
use Rattle.std.specs.Str.Parse.{digits_value, digits_value_after}
use Rattle.std.proofs.lemmas.Bool.{cases_Bool, cond-true, cond-false}
use Rattle.std.proofs.lemmas.Bool.Decides.{nat_tests}
use Rattle.ae_vtoken.specs.declared.token.Key.{Key}
use Rattle.ae_vtoken.specs.Tables.{keys, signs}
use Rattle.ae_vtoken.specs.Tokens.{TokenTree, Name, Unused, Zero, Decimal, Sized, Mark, look_up, is_unused, is_blank, is_word_start, is_word_byte, Place, Between, InLine, Opened, InBlock, Closing, after_gap, word_of, base_of, are_digits, constant, sized_of, decimal_of, number_from, token_of, AreTokens, No_more, Then}
use Rattle.ae_judge.specs.Shape.{IsConstant}

abbrev pub IsSound : TokenTree → Type 0
IsSound (Name n) = 0 < length n
IsSound (Sized size value fits) = IsConstant size value fits
IsSound _ = Unit {0}

abbrev pub AreSound : List TokenTree → Type 0
AreSound [] = Unit {0}
AreSound (t ∷ ts) = IsSound t × AreSound ts

pub sound_split : (ts us : List TokenTree) → AreSound (ts ++ us) → AreSound ts × AreSound us
sound_split [] us h = (tt, h)
sound_split (t ∷ ts) us h = let r = sound_split ts us h.1 in ((h.0, r.0), r.1)

-- a word is a name of at least one letter, or no name

word_sound : (b : ℕ) (bs : List ℕ) (k : Option Key) → IsSound (word_of (b ∷ bs) k)
word_sound b bs (Some k) = tt
word_sound b bs None = by (is_unused (b ∷ bs))
  where
    by : (c : Bool) → IsSound (if c then Unused else Name (b ∷ bs))
    by true = tt
    by false = omega arith

-- numbers

after_above : (n : ℕ) (ds : List ℕ) → 1 ≤ n → 1 ≤ digits_value_after 10 n ds
after_above n [] h = h
after_above n (d ∷ ds) h = after_above (n * 10 + digit_value d) ds (omega arith)

first_digit : (d : ℕ) → is_ascii_digit d ≡ true → starts_with nat_eq (d ∷ []) (codes "0") ≡ false → 1 ≤ digit_value d
first_digit d h n = grind (arith, nat_tests)

constant_sound : (size value : ℕ) → 1 ≤ size → IsSound (constant size value)
constant_sound size value h = by (nat_le size 64) refl (nat_lt value (2 ^ size)) refl
  where
    by : (c : Bool) → nat_le size 64 ≡ c → (d : Bool) → nat_lt value (2 ^ size) ≡ d → IsSound (if c && d then Sized size value true else Sized 0 0 false)
    by true p true q = (h, grind (arith, nat_tests), grind (arith, nat_tests))
    by true p false q = tt
    by false p d q = tt

decimal_sound : (ds : List ℕ) → IsSound (decimal_of ds)
decimal_sound ds = by (bytes_eq ds (codes "0"))
  where
    by : (c : Bool) → IsSound (if c then Zero else Decimal (min (digits_value 10 ds) 4294967295))
    by true = tt
    by false = tt

same_some : {X : Type 0} (x y : X) → Some x ≡ Some y → x ≡ y
same_some x y h = cc

none_some : {X : Type 0} (x : X) → None ≡ Some x → ⊥
none_some x h = cc

sized_sound : (d : ℕ) (ds cs : List ℕ) (t : TokenTree) → is_ascii_digit d ≡ true → sized_of (d ∷ ds) cs ≡ Some t → IsSound t
sized_sound d ds [] t dig h = absurd (none_some t h)
sized_sound d ds (b ∷ bs) t dig h = by (starts_with nat_eq (d ∷ ds) (codes "0")) refl (are_digits (base_of b) bs) h
  where
    by : (c : Bool) → starts_with nat_eq (d ∷ ds) (codes "0") ≡ c → (e : Bool)
        → (if not c && e then Some (constant (digits_value 10 (d ∷ ds)) (digits_value (base_of b) (filter (λ c. not (c == 95)) bs))) else None) ≡ Some t
        → IsSound t
    by true s e h = absurd (none_some t h)
    by false s false h = absurd (none_some t h)
    by false s true h =
        subst IsSound (same_some _ t h) (constant_sound (digits_value 10 (d ∷ ds)) _
        (after_above (0 * 10 + digit_value d) ds (let q = first_digit d dig s in omega arith)))

number_sound : (d : ℕ) (ds cs : List ℕ) (t : TokenTree) → is_ascii_digit d ≡ true → number_from (d ∷ ds) cs ≡ Some t → IsSound t
number_sound d ds [] t dig h = subst IsSound (same_some _ t h) (decimal_sound (d ∷ ds))
number_sound d ds (c ∷ cs) t dig h = elim (cases_Bool (is_ascii_digit c)) [
  | inl e ↦ number_sound d (ds ++ c ∷ []) cs t dig (sym (cond-true _ _ _ e) ∙ h)
  | inr e ↦
      let h' = sym (cond-false _ _ _ e) ∙ h in
      elim (cases_Bool (c == 39)) [
        | inl q ↦ sized_sound d ds cs t dig (sym (cond-true _ _ _ q) ∙ h')
        | inr q ↦ absurd (none_some t (sym (cond-false _ _ _ q) ∙ h'))
      ]
]

mark_sound : (o : Option _) (t : TokenTree) → option_map Mark o ≡ Some t → IsSound t
mark_sound None t h = absurd (none_some t h)
mark_sound (Some s) t h = subst IsSound (same_some _ t h) tt

-- a token has what its kind has
pub token_sound : (piece : List ℕ) (t : TokenTree) → token_of piece ≡ Some t → IsSound t
unfolding token_of
token_sound [] t h = absurd (none_some t h)
token_sound (b ∷ bs) t h = elim (cases_Bool (is_word_start b)) [
  | inl letter ↦
      let h' = sym (cond-true _ _ _ letter) ∙ h in
      elim (cases_Bool (list_all is_word_byte bs)) [
        | inl w ↦ subst IsSound (same_some _ t (sym (cond-true _ _ _ w) ∙ h')) (word_sound b bs (look_up (b ∷ bs) keys))
        | inr w ↦ absurd (none_some t (sym (cond-false _ _ _ w) ∙ h'))
      ]
  | inr other ↦
      let h' = sym (cond-false _ _ _ other) ∙ h in
      elim (cases_Bool (is_ascii_digit b)) [
        | inl digit ↦ number_sound b [] bs t digit (sym (cond-true _ _ _ digit) ∙ h')
        | inr sign ↦ mark_sound (look_up (b ∷ bs) signs) t (sym (cond-false _ _ _ sign) ∙ h')
      ]
]

pub tokens_sound : (text : List ℕ) (ts : List TokenTree) → AreTokens text ts → AreSound ts
tokens_sound _ _ (No_more text h) = tt
tokens_sound _ _ (Then text piece rest t ts begins more) = (token_sound piece t begins.token, tokens_sound rest ts more)

-- how many tokens there are

token_long : (piece : List ℕ) (t : TokenTree) → token_of piece ≡ Some t → 1 ≤ length piece
unfolding token_of
token_long [] t h = absurd (none_some t h)
token_long (b ∷ bs) t h = omega arith

abbrev IsKept : Place → ℕ → Type 0
IsKept (Opened from) k = length from ≤ k
IsKept (InBlock from) k = length from ≤ k
IsKept _ k = Unit {0}

short_if : (c : Bool) (xs ys : List ℕ) (k : ℕ) → length xs ≤ k → length ys ≤ k → length (if c then xs else ys) ≤ k
short_if true xs ys k h g = h
short_if false xs ys k h g = g

gap_short : (p : Place) (text : List ℕ) (k : ℕ) → length text ≤ k → IsKept p k → length (after_gap p text) ≤ k
gap_short Between [] k h w = h
gap_short InLine [] k h w = h
gap_short (Opened from) [] k h w = w
gap_short (InBlock from) [] k h w = w
gap_short Closing [] k h w = h
gap_short Between (b ∷ bs) k h w =
    let s : length bs ≤ k = omega arith in
    short_if (is_blank b) _ _ k (gap_short Between bs k s tt)
    (short_if (starts_with nat_eq (b ∷ bs) (codes "//")) _ _ k (gap_short InLine bs k s tt)
    (short_if (starts_with nat_eq (b ∷ bs) (codes "/*")) _ _ k (gap_short (Opened (b ∷ bs)) bs k s h) h))
gap_short InLine (b ∷ bs) k h w = let s : length bs ≤ k = omega arith in short_if (b == 10) _ _ k (gap_short Between bs k s tt) (gap_short InLine bs k s tt)
gap_short (Opened from) (b ∷ bs) k h w = gap_short (InBlock from) bs k (omega arith) w
gap_short (InBlock from) (b ∷ bs) k h w =
    let s : length bs ≤ k = omega arith in
    short_if (starts_with nat_eq (b ∷ bs) (codes "*/")) _ _ k (gap_short Closing bs k s tt) (gap_short (InBlock from) bs k s w)
gap_short Closing (b ∷ bs) k h w = gap_short Between bs k (omega arith) tt

pub tokens_few : (text : List ℕ) (ts : List TokenTree) → AreTokens text ts → length ts ≤ length text
tokens_few _ _ (No_more text h) = omega arith
tokens_few _ _ (Then text piece rest t ts begins more) =
    let r = tokens_few rest ts more in
    let p = token_long piece t begins.token in
    let e = ap length begins.parts in
    let g = gap_short Between text (length text) (omega arith) tt in
    omega (arith, length-append piece rest)
