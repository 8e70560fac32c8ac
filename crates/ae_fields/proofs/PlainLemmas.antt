-- Numbers without leading zeros.
use Rattle.std.proofs.Common.{◌≡◌, ℕ, zero, suc, ◌^◌, ◌<◌, ◌≤◌, Bool, true, false, ◌&&◌, nat_le, nat_lt, List, [], ◌∷◌, length, get_or, Some, None, if◌then◌else◌, refl, sym, ap, ◌∙◌, arith}
use Rattle.std.proofs.lemmas.Bool.{leb-true, le-leb, ltb-true}
use Rattle.std.proofs.lemmas.Fmt.{digits_decimal, digits_value-decimal, decimal-digits_value, decimal_nonempty, length-decimal-le, first_decimal, decimal_digit}
use Rattle.std.proofs.lemmas.Str.Parse.{IsNumeralModel, numerals_by_value, tells_all_ascii_digits}
use Rattle.std.specs.Fmt.{decimal}
use Rattle.std.specs.Str.{all_ascii_digits}
use Rattle.std.specs.Str.Parse.{digits_value}
use Rattle.ae_fields.specs.Number.{is_numeral, numeral_value}
use Rattle.ae_fields.proofs.Digits.{bounded, bounded-small}
use Rattle.ae_fields.proofs.PartLemmas.{and-both}
use Rattle.ae_seq.proofs.Judging.{left as and-first, right as and-second}

pub own : IsNumeralModel (λ ds. all_ascii_digits ds ≡ true) (digits_value 10)
own = numerals_by_value _ tells_all_ascii_digits

-- no number is written with a zero before other digits
pub zero-led : (ds : List ℕ) → 1 < length ds → get_or ds 0 0 ≡ 48 → (n : ℕ) → n < 2 ^ 64 → ds ≡ decimal n → ⊥
zero-led ds more led zero h e = let l : length ds ≡ 1 = ap length (e ∙ decimal_digit 0 (omega arith)) in omega arith
zero-led ds more led (suc n) h e =
    let f = first_decimal (suc n) (omega arith) h in let g : get_or ds 0 0 ≡ get_or (decimal (suc n)) 0 0 = ap (λ x. get_or x 0 0) e in omega arith

number-of-own : (n : ℕ) → n < 2 ^ 64 → numeral_value (decimal n) ≡ Some n
number-of-own n h =
    let short = length-decimal-le 20 n (omega arith) (omega arith) h in
    let some = decimal_nonempty n h in
    let numeral : is_numeral (decimal n) ≡ true = and-both _ _ (and-both _ _ (le-leb 1 _ (omega arith)) (le-leb _ 20 short)) (digits_decimal own n h) in
    ap (λ t. if t then bounded (digits_value 10 (decimal n)) else None) numeral ∙ ap bounded (digits_value-decimal own n h) ∙ bounded-small n h

-- the number that is written so
pub number-of-decimal : (ds : List ℕ) (n : ℕ) → n < 2 ^ 64 → ds ≡ decimal n → numeral_value ds ≡ Some n
number-of-decimal ds n h e = ap numeral_value e ∙ number-of-own n h

record Numeral (ds : List ℕ) (n : ℕ) : Type 0 where
  numeral : is_numeral ds ≡ true
  small : digits_value 10 ds < 2 ^ 64
  value : digits_value 10 ds ≡ n

numeral-of : (ds : List ℕ) (n : ℕ) → numeral_value ds ≡ Some n → Numeral ds n
numeral-of ds n e = by (is_numeral ds) refl (nat_lt (digits_value 10 ds) (2 ^ 64)) refl e
  where
    by : (t : Bool) → is_numeral ds ≡ t → (u : Bool) → nat_lt (digits_value 10 ds) (2 ^ 64) ≡ u
        → (if t then (if u then Some (digits_value 10 ds) else None) else None) ≡ Some n → Numeral ds n
    by false te u ue h = absurd cc
    by true te false ue h = absurd cc
    by true te true ue h = record { numeral = te; small = ltb-true _ _ ue; value = cc }

-- a number without leading zeros is written so
pub decimal-of-number : (ds : List ℕ) (n : ℕ) → numeral_value ds ≡ Some n → (get_or ds 0 0 ≡ 48 → length ds ≡ 1) → ds ≡ decimal n
decimal-of-number ds n e led =
    let s = numeral-of ds n e in
    let some = leb-true 1 (length ds) (and-first _ _ (and-first _ _ s.numeral)) in
    sym (decimal-digits_value own ds (and-second (nat_le 1 (length ds) && nat_le (length ds) 20) _ s.numeral) (omega arith) led s.small) ∙ ap decimal s.value

-- a text that begins with a digit, and is no longer
pub one-digit : (ds : List ℕ) → length ds ≤ 1 → get_or ds 0 0 ≡ 48 → length ds ≡ 1
one-digit [] short led = absurd (omega arith)
one-digit (d ∷ ds) short led = omega arith
