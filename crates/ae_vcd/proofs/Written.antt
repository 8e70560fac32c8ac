-- Different variables have different codes, and numbers are read as they are written.
use Rattle.std.proofs.Common.{ℕ, ◌≡◌, ◌≢◌, ◌+◌, ◌*◌, ◌/◌, ◌%◌, ◌-◌, ◌<◌, ◌≤◌, ◌^◌, List, [], ◌∷◌, ◌++◌, length, true, false, inl, inr, arith, refl, ap, sym, ◌∙◌}
use Rattle.std.specs.Prelude.{not, nat_eq, nat_lt, nat_le, if◌then◌else◌}
use Rattle.std.specs.List.{list_all}
use Rattle.std.specs.Char.{digit_value}
use Rattle.std.specs.Str.{all_ascii_digits, bytes_eq}
use Rattle.std.specs.Str.Parse.{AllDigits, digits_value}
use Rattle.std.specs.Fmt.{decimal, digits}
use Rattle.std.proofs.lemmas.Bool.{cases_lt, lt-ltb, le-leb, leb-true, ne_eqb, false_from_ne_true, ltb-true}
use Rattle.std.proofs.lemmas.Fmt.{decimal_is_IsNumeral, digits_is_IsNumeral, length-decimal-le}
use Rattle.std.proofs.lemmas.Str.Parse.{tells_digits, tells_all_ascii_digits}
use Rattle.std.proofs.lemmas.Slice.Eq.{bytes_eq-Decides}
use Rattle.ae_vcd.specs.Waves.{is_code, is_graphic}
use Rattle.ae_vcd.specs.WaveText.{code_of}
use Rattle.ae_vcd.specs.TextWords.{with_byte, is_white, text_words}
use Rattle.ae_vcd.specs.Forms.{is_binary, is_binary_digit, is_number}
use Rattle.ae_vcd.proofs.Reading.{both}

pub not_less : (m n : ℕ) → n ≤ m → nat_lt m n ≡ false
not_less m n l = false_from_ne_true (nat_lt m n) (λ t. (let q : m < n = ltb-true m n t in let f : ⊥ = omega arith in f))

-- ---- codes

-- the number that a code writes
abbrev value_of : List ℕ → ℕ
value_of [] = 0
value_of (b ∷ bs) = (b - 33) + 94 * value_of bs

code_value : (k : ℕ) → k < 830584 → value_of (code_of k) ≡ k
code_value k l = elim (cases_lt k 94) [
  | inl a ↦ (let e : nat_lt k 94 ≡ true = lt-ltb k 94 a in rw e (omega arith))
  | inr a ↦ (let e : nat_lt k 94 ≡ false = not_less k 94 a in elim (cases_lt k 8836) [
    | inl b ↦ (let f : nat_lt k 8836 ≡ true = lt-ltb k 8836 b in rw (e, f) (omega arith))
    | inr b ↦ (let f : nat_lt k 8836 ≡ false = not_less k 8836 b in rw (e, f) (omega arith))
  ])
]

graphic : (d : ℕ) → d < 94 → is_graphic (33 + d) ≡ true
graphic d l =
    let a : nat_le 33 (33 + d) ≡ true = le-leb 33 (33 + d) (omega arith) in
    let b : nat_le (33 + d) 126 ≡ true = le-leb (33 + d) 126 (omega arith) in
    rw (a, b) refl

pub code_is_code : (k : ℕ) → k < 830584 → is_code (code_of k) ≡ true
code_is_code k l =
    let x : is_graphic (33 + k % 94) ≡ true = graphic (k % 94) (omega arith) in
    let y : is_graphic (33 + k / 94 % 94) ≡ true = graphic (k / 94 % 94) (omega arith) in
    let z : is_graphic (33 + k / 8836) ≡ true = graphic (k / 8836) (omega arith) in
    elim (cases_lt k 94) [
      | inl a ↦ (let e : nat_lt k 94 ≡ true = lt-ltb k 94 a in rw (e, x) refl)
      | inr a ↦ (let e : nat_lt k 94 ≡ false = not_less k 94 a in elim (cases_lt k 8836) [
        | inl b ↦ (let f : nat_lt k 8836 ≡ true = lt-ltb k 8836 b in rw (e, f, x, y) refl)
        | inr b ↦ (let f : nat_lt k 8836 ≡ false = not_less k 8836 b in rw (e, f, x, y, z) refl)
      ])
    ]

pub codes_differ : (j k : ℕ) → j < 830584 → k < 830584 → j ≢ k → bytes_eq (code_of j) (code_of k) ≡ false
codes_differ j k a b ne =
    false_from_ne_true (bytes_eq (code_of j) (code_of k))
    (λ t. ne (sym (code_value j a) ∙ (ap value_of ((bytes_eq-Decides (code_of j) (code_of k)).0 t) ∙ code_value k b)))

pub code_itself : (k : ℕ) → bytes_eq (code_of k) (code_of k) ≡ true
code_itself k = (bytes_eq-Decides (code_of k) (code_of k)).1 refl

-- ---- numbers

digit_in : (c : ℕ) → digit_value c < 10 → (48 ≤ c) × (c ≤ 57)
digit_in c h = (let r = (tells_digits.parts c [] (h, tt)).0 in (r.0, r.1))

digit_graphic : (c : ℕ) → digit_value c < 10 → is_graphic c ≡ true
digit_graphic c h =
    let r = digit_in c h in
    let a : nat_le 33 c ≡ true = le-leb 33 c (omega arith) in
    let b : nat_le c 126 ≡ true = le-leb c 126 (omega arith) in
    rw (a, b) refl

digits_graphic : (ds : List ℕ) → AllDigits 10 ds → list_all is_graphic ds ≡ true
digits_graphic [] h = refl
digits_graphic (c ∷ cs) h = rw (digit_graphic c h.0) (digits_graphic cs h.1)

all_digits : (ds : List ℕ) → AllDigits 10 ds → all_ascii_digits ds ≡ true
all_digits [] h = refl
all_digits (c ∷ cs) h = tells_all_ascii_digits.more c cs (tells_digits.parts c cs h).0 (all_digits cs h.1)

wider : (ds : List ℕ) → AllDigits 2 ds → AllDigits 10 ds
wider [] h = tt
wider (c ∷ cs) h = ((let l = h.0 in omega arith), wider cs h.1)

bit_digit : (c : ℕ) → digit_value c < 2 → is_binary_digit c ≡ true
bit_digit c h =
    let r = digit_in c (omega arith) in
    let a : nat_lt c 48 ≡ false = not_less c 48 r.0 in
    let b : nat_lt c 58 ≡ true = lt-ltb c 58 (omega arith) in
    let v : c - 48 < 2 = rw (a, b) at h in
    elim (cases_lt c 49) [ inl l ↦ (let e : c ≡ 48 = omega arith in rw e refl) | inr l ↦ (let e : c ≡ 49 = omega arith in rw e refl) ]

bits : (ds : List ℕ) → AllDigits 2 ds → list_all is_binary_digit ds ≡ true
bits [] h = refl
bits (c ∷ cs) h = rw (bit_digit c h.0) (bits cs h.1)

pub record IsDecimal (n : ℕ) : Type 0 where
  pub number : is_number (decimal n) ≡ true
  pub value : digits_value 10 (decimal n) ≡ n
  pub graphic : list_all is_graphic (decimal n) ≡ true
  pub code : is_code (decimal n) ≡ true
  pub short : nat_le (length (decimal n)) 20 ≡ true

code_from : (ds : List ℕ) → 0 < length ds → list_all is_graphic ds ≡ true → is_code ds ≡ true
code_from [] l h = absurd (omega arith)
code_from (c ∷ cs) l h = h

pub decimal_read : (n : ℕ) → n < 2 ^ 64 → IsDecimal n
decimal_read n l =
    let h = decimal_is_IsNumeral n l in
    let some : nat_le 1 (length (decimal n)) ≡ true = le-leb 1 (length (decimal n)) h.0.0 in
    let g : list_all is_graphic (decimal n) ≡ true = digits_graphic (decimal n) h.0.1 in
    record {
      number = rw some (all_digits (decimal n) h.0.1);
      value = h.1;
      graphic = g;
      code = code_from (decimal n) h.0.0 g;
      short = le-leb (length (decimal n)) 20 (length-decimal-le 20 n (omega arith) (omega arith) l);
    }

pub record IsBinaryOf (n : ℕ) : Type 0 where
  pub binary : is_binary (digits 2 false n) ≡ true
  pub value : digits_value 2 (digits 2 false n) ≡ n
  pub graphic : list_all is_graphic (digits 2 false n) ≡ true

binary_from : (ds : List ℕ) → 0 < length ds → list_all is_binary_digit ds ≡ true → is_binary ds ≡ true
binary_from [] l h = absurd (omega arith)
binary_from (c ∷ cs) l h = h

pub binary_read : (n : ℕ) → n < 2 ^ 64 → IsBinaryOf n
binary_read n l =
    let h = digits_is_IsNumeral 2 false (omega arith) (omega arith) n l in
    record {
      binary = binary_from (digits 2 false n) h.0.0 (bits (digits 2 false n) h.0.1);
      value = h.1;
      graphic = digits_graphic (digits 2 false n) (wider (digits 2 false n) h.0.1);
    }

-- ---- words of a text

graphic_no_blank : (b : ℕ) → is_graphic b ≡ true → is_white b ≡ false
graphic_no_blank b e =
    let low : 33 ≤ b = (let p = both (nat_le 33 b) (nat_le b 126) e in leb-true 33 b p.0) in
    let p : nat_eq b 32 ≡ false = ne_eqb b 32 (λ q. absurd (omega arith)) in
    let q : nat_eq b 9 ≡ false = ne_eqb b 9 (λ q. absurd (omega arith)) in
    let r : nat_eq b 10 ≡ false = ne_eqb b 10 (λ q. absurd (omega arith)) in
    let s : nat_eq b 12 ≡ false = ne_eqb b 12 (λ q. absurd (omega arith)) in
    let t : nat_eq b 13 ≡ false = ne_eqb b 13 (λ q. absurd (omega arith)) in
    rw (p, q, r, s, t) refl

-- a word, a blank and the rest
pub word_then : (x : List ℕ) (b : ℕ) (rest : List ℕ) → is_code x ≡ true → is_white b ≡ true → text_words (x ++ b ∷ rest) ≡ x ∷ text_words rest
word_then [] b rest e f = cc
word_then (c ∷ []) b rest e f =
    let p = both (is_graphic c) true e in
    let no : is_white c ≡ false = graphic_no_blank c p.0 in
    rw (no, f) refl
word_then (c ∷ d ∷ x) b rest e f =
    let p = both (is_graphic c) (list_all is_graphic (d ∷ x)) e in
    let q = both (is_graphic d) (list_all is_graphic x) p.1 in
    let no : is_white c ≡ false = graphic_no_blank c p.0 in
    let goes : is_white d ≡ false = graphic_no_blank d q.0 in
    let later : text_words ((d ∷ x) ++ b ∷ rest) ≡ (d ∷ x) ∷ text_words rest = word_then (d ∷ x) b rest p.1 f in
    ap (λ t. if t then text_words ((d ∷ x) ++ b ∷ rest) else with_byte c (not (is_white d)) (text_words ((d ∷ x) ++ b ∷ rest))) no
    ∙ ((λ i. with_byte c (not (goes i)) (later i)))
