-- Decimals: the value, and where they end.
use Rattle.std.proofs.Common.{◌≡◌, ℕ, ◌+◌, ◌-◌, ◌*◌, ◌<◌, ◌≤◌, List, [], ◌∷◌, ◌++◌, length, Bool, true, false, Option, Some, None, sym, ap, ◌∙◌, subst, arith, drop, take, get_or, min, append_assoc, append-nil, zero, suc}
use Rattle.std.specs.Prelude.{IsSome, ◌==◌}
use Rattle.std.specs.List.{list_all}
use Rattle.std.specs.Char.{is_ascii_digit, digit_value}
use Rattle.std.specs.Str.Parse.{digits_value}
use Rattle.std.proofs.lemmas.Int.Digits.{digits_value_more}
use Rattle.std.proofs.lemmas.Bool.{and_parts, cond-true, cond-false}
use Rattle.std.specs.Prelude.{nat_le}
use Rattle.std.proofs.Common.{length-drop}
use Rattle.std.proofs.lemmas.Bool.{leb-true, lt-ltb, le-ltb, and_from}
use Rattle.std.proofs.lemmas.List.{drop_more}
use Rattle.ae_vtoken.proofs.TokenAt.{piece_cons}
use Rattle.ae_vtoken.specs.Tokens.{is_word_start, number_from, decimal_of, token_of}

pub capped_step : (v w d : ℕ) → v ≡ min w 4294967295 → min (v * 10 + d) 4294967295 ≡ min (w * 10 + d) 4294967295
capped_step v w d h = omega (arith, h)

pub capped_more : (ds : List ℕ) (i v d : ℕ) → i < length ds → digit_value (get_or ds i 0) ≡ d → v ≡ min (digits_value 10 (take i ds)) 4294967295
    → min (v * 10 + d) 4294967295 ≡ min (digits_value 10 (take (i + 1) ds)) 4294967295
capped_more ds i v d within digit h =
    capped_step v (digits_value 10 (take i ds)) d h ∙ ap (λ n. min n 4294967295)
    (ap (λ k. digits_value 10 (take i ds) * 10 + k) (sym digit) ∙ sym (digits_value_more 10 ds i within))

-- digits in front are taken over
pub digits_then : (ds xs rest : List ℕ) → list_all is_ascii_digit xs ≡ true → number_from ds (xs ++ rest) ≡ number_from (ds ++ xs) rest
digits_then ds [] rest h = ap (λ l. number_from l rest) (sym (append-nil ds))
digits_then ds (x ∷ xs) rest h =
    let parts = and_parts (is_ascii_digit x) (list_all is_ascii_digit xs) h in
    cond-true _ _ _ parts.0 ∙ digits_then (ds ++ x ∷ []) xs rest parts.1 ∙ ap (λ l. number_from l rest) (append_assoc ds (x ∷ []) xs)

pub number_token : (b : ℕ) (bs : List ℕ) → is_word_start b ≡ false → is_ascii_digit b ≡ true → token_of (b ∷ bs) ≡ number_from (b ∷ []) bs
unfolding token_of
number_token b bs letter digit = cond-false _ _ _ letter ∙ cond-true _ _ _ digit

pub decimal_token : (b : ℕ) (xs : List ℕ) → is_word_start b ≡ false → is_ascii_digit b ≡ true → list_all is_ascii_digit xs ≡ true
    → token_of (b ∷ xs) ≡ Some (decimal_of (b ∷ xs))
decimal_token b xs letter digit all =
    ap (λ l. token_of (b ∷ l)) (sym (append-nil xs)) ∙ number_token b (xs ++ []) letter digit ∙ digits_then (b ∷ []) xs [] all

pub none_some : {X : Type 0} (o : Option X) → o ≡ None → IsSome o → ⊥
none_some None e some = cc
none_some (Some x) e some = cc

-- the digit at a place
pub pass_at : (q : ℕ → Bool) (xs : List ℕ) (i : ℕ) → i < length xs → list_all q xs ≡ true → q (get_or xs i 0) ≡ true
pass_at q [] i within h = absurd (omega (arith, within))
pass_at q (x ∷ xs) zero within h = (and_parts (q x) (list_all q xs) h).0
pass_at q (x ∷ xs) (suc i) within h = pass_at q xs i (omega (arith, within)) (and_parts (q x) (list_all q xs) h).1

pub digit_is : (c : ℕ) → is_ascii_digit c ≡ true → digit_value c ≡ c - 48
digit_is c h =
    let parts = and_parts (nat_le 48 c) (nat_le c 57) h in
    let low = leb-true 48 c parts.0 in
    let high = leb-true c 57 parts.1 in
    cond-false _ _ _ (le-ltb c 48 low) ∙ cond-true _ _ _ (lt-ltb c 58 (omega (arith, high)))

rest_front : (text : List ℕ) (to : ℕ) → (to < length text → (is_ascii_digit (get_or text to 0) ≡ false) × ((get_or text to 0 == 39) ≡ false))
    → (c : ℕ) (more : List ℕ) → drop to text ≡ c ∷ more → (is_ascii_digit c ≡ false) × ((c == 39) ≡ false)
rest_front text to ends c more e =
    let size : length text - to ≡ suc (length more) = sym (length-drop to text) ∙ ap length e in
    let within : to < length text = omega (arith, size) in
    let front : get_or text to 0 ∷ drop (to + 1) text ≡ c ∷ more = sym (drop_more text to 0 within) ∙ e in
    let same : get_or text to 0 ≡ c = cc in
    subst (λ c. (is_ascii_digit c ≡ false) × ((c == 39) ≡ false)) same (ends within)

pub all_digits : (text : List ℕ) (from to : ℕ) → from < length text → from + 1 ≤ to → is_ascii_digit (get_or text from 0) ≡ true
    → list_all is_ascii_digit (take (to - (from + 1)) (drop (from + 1) text)) ≡ true → list_all is_ascii_digit (take (to - from) (drop from text)) ≡ true
all_digits text from to within past digit all =
    ap (list_all is_ascii_digit) (piece_cons text from to within past) ∙ and_from _ _ digit all
