-- Words and signs at a place.
use Rattle.std.proofs.Common.{◌≡◌, ℕ, ◌+◌, ◌-◌, ◌<◌, ◌≤◌, List, [], ◌∷◌, length, Bool, true, false, sym, ap, ◌∙◌, arith, drop, take, get_or, length-drop}
use Rattle.std.specs.List.{list_all}
use Rattle.std.proofs.lemmas.List.{drop_more, get_or-drop}
use Rattle.std.proofs.lemmas.List.Folds.{list_all_more}
use Rattle.std.proofs.lemmas.Bool.{and_from}
use Rattle.std.specs.Char.{is_ascii_digit, is_ascii_alphabetic}
use Rattle.std.specs.Prelude.{nat_le, ◌||◌, ◌&&◌}
use Rattle.std.specs.Str.{IsAscii}
use Rattle.std.specs.Int.{is_in_range}
use Rattle.std.proofs.Common.{zero, suc, inl, inr}
use Rattle.std.proofs.lemmas.Bool.{and_parts, or_cases, leb-true, eqb-true}
use Rattle.ae_vtoken.specs.Tokens.{is_word_start, is_word_byte}

pub span_more : (q : ℕ → Bool) (text : List ℕ) (from i : ℕ) → from ≤ i → i < length text → list_all q (take (i - from) (drop from text)) ≡ true
    → q (get_or text i 0) ≡ true → list_all q (take (i + 1 - from) (drop from text)) ≡ true
span_more q text from i past within so_far here =
    let n : ℕ = i - from in
    let there : from + n ≡ i = omega (arith, past) in
    let next : i + 1 - from ≡ n + 1 = omega (arith, past) in
    let inside : n < length (drop from text) = omega (arith, past, within, length-drop from text) in
    ap (λ k. list_all q (take k (drop from text))) next
    ∙ list_all_more q (drop from text) n 0 inside
    ∙ and_from _ _ so_far (ap q (get_or-drop from text n 0 ∙ ap (λ k. get_or text k 0) there) ∙ here)

pub word_more : (text : List ℕ) (from i : ℕ) → from ≤ i → i < length text → list_all is_word_byte (take (i - from) (drop from text)) ≡ true
    → is_word_byte (get_or text i 0) ≡ true → list_all is_word_byte (take (i + 1 - from) (drop from text)) ≡ true
word_more = span_more is_word_byte

-- the bytes of a word are ASCII

small_range : (low high b : ℕ) → high < 128 → (nat_le low b && nat_le b high) ≡ true → b < 128
small_range low high b small h = let top = leb-true b high (and_parts (nat_le low b) _ h).1 in omega arith

small_letter : (b : ℕ) → is_word_start b ≡ true → b < 128
small_letter b h = elim (or_cases (is_ascii_alphabetic b) _ h) [
  | inl alphabetic ↦ elim (or_cases (is_in_range 65 90 b) _ alphabetic) [
    | inl upper ↦ small_range 65 90 b
        (omega arith) upper
    | inr lower ↦ small_range 97 122 b (omega arith) lower
  ]
  | inr under ↦ (let e = eqb-true b 95 under in omega arith)
]

word_byte_small : (b : ℕ) → is_word_byte b ≡ true → b < 128
word_byte_small b h = elim (or_cases (is_word_start b || is_ascii_digit b) _ h) [
  | inl other ↦ elim (or_cases (is_word_start b) _ other) [
    | inl letter ↦ small_letter b letter
    | inr digit ↦ small_range 48 57 b (omega arith) digit
  ]
  | inr dollar ↦ (let e = eqb-true b 36 dollar in omega arith)
]

pub word_bytes_ascii : (bs : List ℕ) → list_all is_word_byte bs ≡ true → IsAscii bs
word_bytes_ascii [] h i = omega arith
word_bytes_ascii (b ∷ bs) h zero = word_byte_small b (and_parts (is_word_byte b) (list_all is_word_byte bs) h).0
word_bytes_ascii (b ∷ bs) h (suc i) = word_bytes_ascii bs (and_parts (is_word_byte b) (list_all is_word_byte bs) h).1 i

-- what stands behind a place
pub front_fails : (q : ℕ → Bool) (text : List ℕ) (to : ℕ) → (to < length text → q (get_or text to 0) ≡ false) → (c : ℕ) (more : List ℕ) → drop to text ≡ c
    ∷ more → q c ≡ false
front_fails q text to ends c more e =
    let size : length text - to ≡ suc (length more) = sym (length-drop to text) ∙ ap length e in
    let within : to < length text = omega (arith, size) in
    let front : get_or text to 0 ∷ drop (to + 1) text ≡ c ∷ more = sym (drop_more text to 0 within) ∙ e in
    let same : get_or text to 0 ≡ c = cc in
    ap q (sym same) ∙ ends within
