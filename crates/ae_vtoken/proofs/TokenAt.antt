-- The longest token at a place: words and signs.
use Rattle.std.proofs.Common.{◌≡◌, ℕ, ◌+◌, ◌-◌, ◌<◌, ◌≤◌, List, [], ◌∷◌, ◌++◌, length, true, false, Some, None, refl, sym, ap, ◌∙◌, subst, arith, drop, take, get_or, length-drop, suc}
use Rattle.std.specs.Prelude.{IsSome}
use Rattle.std.specs.List.{list_all}
use Rattle.std.proofs.lemmas.List.{drop_more}
use Rattle.std.proofs.lemmas.List.Folds.{list_all-append}
use Rattle.std.proofs.lemmas.Bool.{and_parts, and_from, or_left, both_ways, cond-true}
use Rattle.std.proofs.lemmas.Option.{cond_some}
use Rattle.ae_vtoken.specs.Tokens.{is_word_start, is_word_byte, token_of, word_of, look_up, IsLongest}
use Rattle.ae_vtoken.specs.Tables.{keys}
use Rattle.ae_vtoken.specs.Scan.{TokenAt}

-- a word ends where no byte of a word stands
word_ends : (b : ℕ) (bs rest : List ℕ) → is_word_start b ≡ true → ((c : ℕ) (more : List ℕ) → rest ≡ c ∷ more → is_word_byte c ≡ false) → IsLongest (b ∷ bs) rest
unfolding token_of
word_ends b bs rest letter ends [] after e some = refl
word_ends b bs rest letter ends (c ∷ more) after e some =
    elim (token_of (b ∷ bs ++ c ∷ more)) as (λ o. token_of (b ∷ bs ++ c ∷ more) ≡ o → IsSome o → c ∷ more ≡ []) [
      | None ↦ λ h some. cc
      | Some t ↦ λ h some.
          let word = cond_some _ _ _ (sym (cond-true _ _ _ letter) ∙ h) in
          let parts = and_parts (list_all is_word_byte bs) (list_all is_word_byte (c ∷ more)) (sym (list_all-append is_word_byte bs (c ∷ more)) ∙ word.0) in
          absurd (both_ways _ (ends c (more ++ after) e) (and_parts _ _ parts.1).0)
    ] refl some

word_token : (b : ℕ) (bs : List ℕ) → is_word_start b ≡ true → list_all is_word_byte bs ≡ true
    → token_of (b ∷ bs) ≡ Some (word_of (b ∷ bs) (look_up (b ∷ bs) keys))
unfolding token_of
word_token b bs letter all = cond-true _ _ _ letter ∙ cond-true _ _ _ all

pub piece_cons : (text : List ℕ) (from to : ℕ) → from < length text → from + 1 ≤ to → take (to - from) (drop from text) ≡ get_or text from 0
    ∷ take (to - (from + 1)) (drop (from + 1) text)
piece_cons text from to within past =
    let n : ℕ = to - (from + 1) in
    let size : to - from ≡ suc n = omega (arith, past) in
    ap (λ k. take k (drop from text)) size ∙ ap (take (suc n)) (drop_more text from 0 within)

rest_front : (text : List ℕ) (to : ℕ) → (to < length text → is_word_byte (get_or text to 0) ≡ false) → (c : ℕ) (more : List ℕ) → drop to text ≡ c ∷ more
    → is_word_byte c ≡ false
rest_front text to ends c more e =
    let size : length text - to ≡ suc (length more) = sym (length-drop to text) ∙ ap length e in
    let within : to < length text = omega (arith, size) in
    let front : get_or text to 0 ∷ drop (to + 1) text ≡ c ∷ more = sym (drop_more text to 0 within) ∙ e in
    let same : get_or text to 0 ≡ c = cc in
    ap is_word_byte (sym same) ∙ ends within

pub word_at : (text : List ℕ) (from to : ℕ) → from < length text → from + 1 ≤ to → to ≤ length text → is_word_start (get_or text from 0) ≡ true
    → list_all is_word_byte (take (to - (from + 1)) (drop (from + 1) text)) ≡ true → (to < length text → is_word_byte (get_or text to 0) ≡ false)
    → TokenAt text from to (word_of (take (to - from) (drop from text)) (look_up (take (to - from) (drop from text)) keys))
word_at text from to within past end letter all ends =
    let b : ℕ = get_or text from 0 in
    let bs : List ℕ = take (to - (from + 1)) (drop (from + 1) text) in
    let piece = piece_cons text from to within past in
    record {
      past = omega (arith, past);
      within = end;
      token = ap token_of piece ∙ word_token b bs letter all ∙ ap (λ p. Some (word_of p (look_up p keys))) (sym piece);
      longest = subst (λ p. IsLongest p (drop to text)) (sym piece) (word_ends b bs (drop to text) letter (rest_front text to ends));
    }

pub all_words : (text : List ℕ) (from to : ℕ) → from < length text → from + 1 ≤ to → is_word_start (get_or text from 0) ≡ true
    → list_all is_word_byte (take (to - (from + 1)) (drop (from + 1) text)) ≡ true → list_all is_word_byte (take (to - from) (drop from text)) ≡ true
all_words text from to within past letter all =
    ap (list_all is_word_byte) (piece_cons text from to within past) ∙ and_from _ _ (or_left _ _ (or_left _ _ letter)) all
