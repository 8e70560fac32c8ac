-- The first word of a text.
use Rattle.std.proofs.lemmas.Grind.{common_steps}
use Rattle.std.proofs.lemmas.List.{take_more, drop_more, take-append-drop}
use Rattle.std.proofs.Common.{◌≡◌, ℕ, zero, suc, take, drop, get_or, ◌≤◌, ◌+◌, ◌<◌, Bool, true, false, not, ◌&&◌, List, [], ◌∷◌, ◌++◌, length, refl, sym, ap, ◌∙◌, true≢false, if◌then◌else◌, arith}
use Rattle.ae_vcd.specs.TextWords.{with_byte, is_in_word, is_white, text_words}

-- a piece without a blank
abbrev pub no_blank : List ℕ → Bool
no_blank [] = true
no_blank (b ∷ bs) = not (is_white b) && no_blank bs

-- a piece without a blank, where a blank or nothing follows, is a word
pub words-run : (b : ℕ) (bs after : List ℕ) → no_blank (b ∷ bs) ≡ true → is_in_word after ≡ false → text_words ((b ∷ bs) ++ after) ≡ (b ∷ bs) ∷ text_words after
words-run b [] after h g = by (is_white b) refl
  where
    by : (t : Bool) → is_white b ≡ t → text_words (b ∷ after) ≡ (b ∷ []) ∷ text_words after
    by true e = absurd (true≢false (sym h ∙ ap (λ t. not t && true) e))
    by false e = ap (λ t. if t then text_words after else with_byte b (is_in_word after) (text_words after)) e ∙ ap (λ t. with_byte b t (text_words after)) g
words-run b (c ∷ bs) after h g = by (is_white b) refl (is_white c) refl (words-run c bs after)
  where
    by : (t : Bool) → is_white b ≡ t → (u : Bool) → is_white c ≡ u
        → (no_blank (c ∷ bs) ≡ true → is_in_word after ≡ false → text_words ((c ∷ bs) ++ after) ≡ (c ∷ bs) ∷ text_words after)
        → text_words (b ∷ (c ∷ bs) ++ after) ≡ (b ∷ c ∷ bs) ∷ text_words after
    by true e u eu rest = absurd (true≢false (sym h ∙ ap (λ t. not t && no_blank (c ∷ bs)) e))
    by false e true eu rest = absurd (true≢false (sym h ∙ ap (λ t. not t && no_blank (c ∷ bs)) e ∙ ap (λ t. not t && no_blank bs) eu))
    by false e false eu rest =
        ap (λ t. if t then text_words ((c ∷ bs) ++ after) else with_byte b (is_in_word ((c ∷ bs) ++ after)) (text_words ((c ∷ bs) ++ after))) e
        ∙ ap (λ t. with_byte b (not t) (text_words ((c ∷ bs) ++ after))) eu
        ∙ ap (with_byte b true) (rest (sym (ap (λ t. not t && no_blank (c ∷ bs)) e) ∙ h) g)

pub no_blank-push : (xs : List ℕ) (b : ℕ) → no_blank xs ≡ true → is_white b ≡ false → no_blank (xs ++ b ∷ []) ≡ true
no_blank-push [] b h e = ap (λ t. not t && true) e
no_blank-push (x ∷ xs) b h e = by (is_white x) refl (λ k. no_blank-push xs b k e)
  where
    by : (t : Bool) → is_white x ≡ t → (no_blank xs ≡ true → no_blank (xs ++ b ∷ []) ≡ true) → no_blank ((x ∷ xs) ++ b ∷ []) ≡ true
    by true i rest = absurd (true≢false (sym h ∙ ap (λ t. not t && no_blank xs) i))
    by false i rest = ap (λ t. not t && no_blank (xs ++ b ∷ [])) i ∙ rest (sym (ap (λ t. not t && no_blank xs) i) ∙ h)

pub no_blank-more : (xs : List ℕ) (k : ℕ) → k < length xs → no_blank (take k xs) ≡ true → is_white (get_or xs k 0) ≡ false → no_blank (take (k + 1) xs) ≡ true
no_blank-more xs k h n e = ap no_blank (take_more xs k 0 h) ∙ no_blank-push (take k xs) (get_or xs k 0) n e

pub goes_on-blank : (xs : List ℕ) (k : ℕ) → k < length xs → is_white (get_or xs k 0) ≡ true → is_in_word (drop k xs) ≡ false
goes_on-blank xs k h e = ap is_in_word (drop_more xs k 0 h) ∙ ap not e

pub goes_on-end : (xs : List ℕ) (k : ℕ) → length xs ≤ k → is_in_word (drop k xs) ≡ false
goes_on-end xs k h = let d : drop k xs ≡ [] = grind (arith, common_steps) in ap is_in_word d

-- the bytes up to a blank or the end
pub words-taken : (xs : List ℕ) (k : ℕ) → 0 < k → k ≤ length xs → no_blank (take k xs) ≡ true → is_in_word (drop k xs) ≡ false → text_words xs ≡ take k xs
    ∷ text_words (drop k xs)
words-taken [] k some h n g = absurd (omega arith)
words-taken (x ∷ xs) zero some h n g = absurd (omega arith)
words-taken (x ∷ xs) (suc k) some h n g = ap (λ ys. text_words (x ∷ ys)) (sym (take-append-drop k xs)) ∙ words-run x (take k xs) (drop k xs) n g
