-- The first field of a line.
use Rattle.std.proofs.lemmas.Grind.{common_steps}
use Rattle.std.proofs.lemmas.List.{take_more, drop_more, take-append-drop}
use Rattle.std.proofs.Common.{◌≡◌, ℕ, zero, suc, take, drop, get_or, ◌≤◌, ◌+◌, ◌<◌, Bool, true, false, not, ◌&&◌, List, [], ◌∷◌, ◌++◌, length, refl, sym, ap, ◌∙◌, true≢false, if◌then◌else◌, arith}
use Rattle.ae_fields.specs.Cut.{fields, is_gap, goes_on, fielded}
use Rattle.ae_fields.specs.Cut.{no_blank}

-- a piece without a blank, where a blank or nothing follows, is a field
pub fields-run : (b : ℕ) (bs after : List ℕ) → no_blank (b ∷ bs) ≡ true → goes_on after ≡ false → fields ((b ∷ bs) ++ after) ≡ (b ∷ bs) ∷ fields after
fields-run b [] after h g = by (is_gap b) refl
  where
    by : (t : Bool) → is_gap b ≡ t → fields (b ∷ after) ≡ (b ∷ []) ∷ fields after
    by true e = absurd (true≢false (sym h ∙ ap (λ t. not t && true) e))
    by false e = ap (λ t. if t then fields after else fielded b (goes_on after) (fields after)) e ∙ ap (λ t. fielded b t (fields after)) g
fields-run b (c ∷ bs) after h g = by (is_gap b) refl (is_gap c) refl (fields-run c bs after)
  where
    by : (t : Bool) → is_gap b ≡ t → (u : Bool) → is_gap c ≡ u
        → (no_blank (c ∷ bs) ≡ true → goes_on after ≡ false → fields ((c ∷ bs) ++ after) ≡ (c ∷ bs) ∷ fields after)
        → fields (b ∷ (c ∷ bs) ++ after) ≡ (b ∷ c ∷ bs) ∷ fields after
    by true e u eu rest = absurd (true≢false (sym h ∙ ap (λ t. not t && no_blank (c ∷ bs)) e))
    by false e true eu rest = absurd (true≢false (sym h ∙ ap (λ t. not t && no_blank (c ∷ bs)) e ∙ ap (λ t. not t && no_blank bs) eu))
    by false e false eu rest =
        ap (λ t. if t then fields ((c ∷ bs) ++ after) else fielded b (goes_on ((c ∷ bs) ++ after)) (fields ((c ∷ bs) ++ after))) e
        ∙ ap (λ t. fielded b (not t) (fields ((c ∷ bs) ++ after))) eu
        ∙ ap (fielded b true) (rest (sym (ap (λ t. not t && no_blank (c ∷ bs)) e) ∙ h) g)

pub no_blank-push : (xs : List ℕ) (b : ℕ) → no_blank xs ≡ true → is_gap b ≡ false → no_blank (xs ++ b ∷ []) ≡ true
no_blank-push [] b h e = ap (λ t. not t && true) e
no_blank-push (x ∷ xs) b h e = by (is_gap x) refl (λ k. no_blank-push xs b k e)
  where
    by : (t : Bool) → is_gap x ≡ t → (no_blank xs ≡ true → no_blank (xs ++ b ∷ []) ≡ true) → no_blank ((x ∷ xs) ++ b ∷ []) ≡ true
    by true i rest = absurd (true≢false (sym h ∙ ap (λ t. not t && no_blank xs) i))
    by false i rest = ap (λ t. not t && no_blank (xs ++ b ∷ [])) i ∙ rest (sym (ap (λ t. not t && no_blank xs) i) ∙ h)

pub no_blank-more : (xs : List ℕ) (k : ℕ) → k < length xs → no_blank (take k xs) ≡ true → is_gap (get_or xs k 0) ≡ false → no_blank (take (k + 1) xs) ≡ true
no_blank-more xs k h n e = ap no_blank (take_more xs k 0 h) ∙ no_blank-push (take k xs) (get_or xs k 0) n e

pub goes_on-blank : (xs : List ℕ) (k : ℕ) → k < length xs → is_gap (get_or xs k 0) ≡ true → goes_on (drop k xs) ≡ false
goes_on-blank xs k h e = ap goes_on (drop_more xs k 0 h) ∙ ap not e

pub goes_on-end : (xs : List ℕ) (k : ℕ) → length xs ≤ k → goes_on (drop k xs) ≡ false
goes_on-end xs k h = let d : drop k xs ≡ [] = grind (arith, common_steps) in ap goes_on d

-- the bytes up to a blank or the end
pub fields-taken : (xs : List ℕ) (k : ℕ) → 0 < k → k ≤ length xs → no_blank (take k xs) ≡ true → goes_on (drop k xs) ≡ false → fields xs ≡ take k xs
    ∷ fields (drop k xs)
fields-taken [] k some h n g = absurd (omega arith)
fields-taken (x ∷ xs) zero some h n g = absurd (omega arith)
fields-taken (x ∷ xs) (suc k) some h n g = ap (λ ys. fields (x ∷ ys)) (sym (take-append-drop k xs)) ∙ fields-run x (take k xs) (drop k xs) n g
