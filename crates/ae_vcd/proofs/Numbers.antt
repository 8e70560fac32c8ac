-- Numbers as their digits are read from the front.
use Rattle.std.proofs.Common.{◌≡◌, ℕ, ◌+◌, ◌*◌, ◌^◌, ◌<◌, ◌≤◌, true, nat_eq, nat_lt, List, [], ◌∷◌, length, take, drop, get_or, Option, Some, None, if◌then◌else◌, sym, ap, subst, arith, inl, inr}
use Rattle.std.proofs.lemmas.List.{drop_more}
use Rattle.std.proofs.lemmas.Bool.{le-ltb, lt-ltb}
use Rattle.std.proofs.lemmas.Str.{digit_value_digit}
use Rattle.std.proofs.lemmas.Str.Parse.{digits_value-take-le, tells_digits, tells_all_ascii_digits}
use Rattle.std.proofs.lemmas.Int.Digits.{digits_value_more}
use Rattle.std.specs.Char.{digit_value}
use Rattle.std.specs.List.{list_all}
use Rattle.std.specs.Str.{all_ascii_digits}
use Rattle.std.specs.Str.Parse.{AllDigits, digits_value}
use Rattle.ae_vcd.specs.Forms.{is_binary_digit}
use Rattle.ae_vcd.proofs.Reading.{both, either, same_byte}

-- a digit's value
digit-is : (c : ℕ) → digit_value c < 10 → digit_value c + 48 ≡ c
digit-is c h = (let r = (tells_digits.parts c [] (h, tt)).0 in digit_value_digit c (r.0, r.1))

first-digit : (radix : ℕ) (ds : List ℕ) (i : ℕ) → i < length ds → AllDigits radix (drop i ds) → digit_value (get_or ds i 0) < radix
first-digit radix ds i h all = (subst (λ (l : List ℕ). AllDigits radix l) (drop_more ds i 0 h) all).0

pub later-digits : (radix : ℕ) (ds : List ℕ) (i : ℕ) → i < length ds → AllDigits radix (drop i ds) → AllDigits radix (drop (i + 1) ds)
later-digits radix ds i h all = (subst (λ (l : List ℕ). AllDigits radix l) (drop_more ds i 0 h) all).1

pub digit-least : (radix : ℕ) (ds : List ℕ) (i : ℕ) → radix ≤ 10 → i < length ds → AllDigits radix (drop i ds) → 48 ≤ get_or ds i 0
digit-least radix ds i r h all =
    let f : digit_value (get_or ds i 0) < radix = first-digit radix ds i h all in
    let d : digit_value (get_or ds i 0) + 48 ≡ get_or ds i 0 = digit-is (get_or ds i 0) (omega arith) in
    omega arith

-- the value one digit later
pub one-more : (radix : ℕ) (ds : List ℕ) (i v : ℕ) → radix ≤ 10 → i < length ds → v ≡ digits_value radix (take i ds) → AllDigits radix (drop i ds)
    → digits_value radix (take (i + 1) ds) + 48 ≡ v * radix + get_or ds i 0
one-more radix ds i v r h so all =
    let m : digits_value radix (take (i + 1) ds) ≡ digits_value radix (take i ds) * radix + digit_value (get_or ds i 0) = digits_value_more radix ds i h in
    let f : digit_value (get_or ds i 0) < radix = first-digit radix ds i h all in
    let d : digit_value (get_or ds i 0) + 48 ≡ get_or ds i 0 = digit-is (get_or ds i 0) (omega arith) in
    let p : v * radix ≡ digits_value radix (take i ds) * radix = ap (λ n. n * radix) so in
    omega arith

abbrev pub bounded : ℕ → Option ℕ
bounded v = if nat_lt v (2 ^ 64) then Some v else None

pub bounded-small : (v : ℕ) → v < 2 ^ 64 → bounded v ≡ Some v
bounded-small v h = ap (λ t. if t then Some v else None) (lt-ltb v (2 ^ 64) h)

bounded-large : (v : ℕ) → 2 ^ 64 ≤ v → bounded v ≡ None
bounded-large v h = ap (λ t. if t then Some v else None) (le-ltb v (2 ^ 64) h)

-- a part is too large already
pub too-large : (radix : ℕ) (ds : List ℕ) (i : ℕ) → 1 ≤ radix → 2 ^ 64 ≤ digits_value radix (take i ds) → bounded (digits_value radix ds) ≡ None
too-large radix ds i r h = bounded-large _ (let l : digits_value radix (take i ds) ≤ digits_value radix ds = digits_value-take-le radix ds i r in omega arith)

-- digits as the tests know them
pub decimal_digits : (ds : List ℕ) → all_ascii_digits ds ≡ true → AllDigits 10 ds
decimal_digits [] h = tt
decimal_digits (c ∷ cs) h = (let p = tells_all_ascii_digits.parts c cs h in tells_digits.more c cs p.0 (decimal_digits cs p.1))

binary-digit : (c : ℕ) → is_binary_digit c ≡ true → digit_value c < 2
binary-digit c h = elim (either (nat_eq c 48) (nat_eq c 49) h) [
  | inl e ↦ subst (λ (b : ℕ). digit_value b < 2) (sym (same_byte c 48 e)) (omega arith)
  | inr e ↦ subst (λ (b : ℕ). digit_value b < 2) (sym (same_byte c 49 e)) (omega arith)
]

pub binary_digits : (ds : List ℕ) → list_all is_binary_digit ds ≡ true → AllDigits 2 ds
binary_digits [] h = tt
binary_digits (c ∷ cs) h = (let p = both (is_binary_digit c) (list_all is_binary_digit cs) h in (binary-digit c p.0, binary_digits cs p.1))
