-- Numbers as their digits are read from the front.
use Rattle.std.proofs.Common.{◌≡◌, ℕ, ◌+◌, ◌*◌, ◌^◌, ◌<◌, ◌≤◌, true, nat_le, nat_lt, List, length, take, drop, get_or, Option, Some, None, if◌then◌else◌, sym, ap, ◌∙◌, arith}
use Rattle.std.proofs.lemmas.List.{drop_more}
use Rattle.std.proofs.lemmas.Bool.{leb-true, le-ltb, lt-ltb}
use Rattle.std.proofs.lemmas.Str.{digit_value_digit}
use Rattle.std.proofs.lemmas.Str.Parse.{digits_value-take-le}
use Rattle.std.proofs.lemmas.Int.Digits.{digits_value_more}
use Rattle.std.specs.Char.{digit_value, is_ascii_digit}
use Rattle.std.specs.Str.{all_ascii_digits}
use Rattle.std.specs.Str.Parse.{digits_value}
use Rattle.ae_seq.proofs.Judging.{left as and-first, right as and-second}

-- a digit's value
pub digit-is : (c : ℕ) → is_ascii_digit c ≡ true → digit_value c + 48 ≡ c
digit-is c h = digit_value_digit c (leb-true 48 c (and-first _ _ h), leb-true c 57 (and-second (nat_le 48 c) _ h))

pub first-digit : (ds : List ℕ) (i : ℕ) → i < length ds → all_ascii_digits (drop i ds) ≡ true → is_ascii_digit (get_or ds i 0) ≡ true
first-digit ds i h all = and-first _ _ (sym (ap all_ascii_digits (drop_more ds i 0 h)) ∙ all)

pub later-digits : (ds : List ℕ) (i : ℕ) → i < length ds → all_ascii_digits (drop i ds) ≡ true → all_ascii_digits (drop (i + 1) ds) ≡ true
later-digits ds i h all = and-second (is_ascii_digit (get_or ds i 0)) _ (sym (ap all_ascii_digits (drop_more ds i 0 h)) ∙ all)

pub digit-least : (ds : List ℕ) (i : ℕ) → i < length ds → all_ascii_digits (drop i ds) ≡ true → 48 ≤ get_or ds i 0
digit-least ds i h all = leb-true 48 (get_or ds i 0) (and-first _ _ (first-digit ds i h all))

-- the value one digit later
pub one-more : (ds : List ℕ) (i v : ℕ) → i < length ds → v ≡ digits_value 10 (take i ds) → all_ascii_digits (drop i ds) ≡ true
    → digits_value 10 (take (i + 1) ds) + 48 ≡ v * 10 + get_or ds i 0
one-more ds i v h so all =
    let m = digits_value_more 10 ds i h in
    let d = digit-is (get_or ds i 0) (first-digit ds i h all) in
    omega (arith, m, d, so)

abbrev pub bounded : ℕ → Option ℕ
bounded v = if nat_lt v (2 ^ 64) then Some v else None

pub bounded-small : (v : ℕ) → v < 2 ^ 64 → bounded v ≡ Some v
bounded-small v h = ap (λ t. if t then Some v else None) (lt-ltb v (2 ^ 64) h)

pub bounded-large : (v : ℕ) → 2 ^ 64 ≤ v → bounded v ≡ None
bounded-large v h = ap (λ t. if t then Some v else None) (le-ltb v (2 ^ 64) h)

-- a part is too large already
pub too-large : (ds : List ℕ) (i : ℕ) → 2 ^ 64 ≤ digits_value 10 (take i ds) → bounded (digits_value 10 ds) ≡ None
too-large ds i h = bounded-large _ (omega (arith, digits_value-take-le 10 ds i (omega arith)))
