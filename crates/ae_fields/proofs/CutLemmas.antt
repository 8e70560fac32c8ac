-- Lines found by going over a text.
use Rattle.std.proofs.lemmas.Grind.{common_steps}
use Rattle.std.proofs.Common.{◌≡◌, ℕ, ◌+◌, ◌-◌, ◌<◌, true, false, nat_eq, List, [], ◌∷◌, ◌++◌, length, take, drop, refl, sym, ap, ◌∙◌, if◌then◌else◌, arith, get_or}
use Rattle.std.proofs.lemmas.List.{take_more, drop_more, append-nil}
use Rattle.ae_fields.specs.Cut.{lines, pieces, put, put_all}

pub put_all-first : (xs l : List ℕ) (ls : List (List ℕ)) → put_all xs (l ∷ ls) ≡ (xs ++ l) ∷ ls
put_all-first [] l ls = refl
put_all-first (x ∷ xs) l ls = ap (put x) (put_all-first xs l ls)

pub put_all-push : (xs : List ℕ) (x : ℕ) (ls : List (List ℕ)) → put_all (xs ++ x ∷ []) ls ≡ put_all xs (put x ls)
put_all-push [] x ls = refl
put_all-push (y ∷ xs) x ls = ap (put y) (put_all-push xs x ls)

-- the bytes that follow no LF stand at the head of the first line
pub put_all-none : (x : ℕ) (xs : List ℕ) → put_all (x ∷ xs) [] ≡ (x ∷ xs) ∷ []
put_all-none x [] = refl
put_all-none x (y ∷ xs) = ap (put x) (put_all-none y xs)

pub put_all-some : (xs : List ℕ) → 0 < length xs → put_all xs [] ≡ xs ∷ []
put_all-some [] h = absurd (omega arith)
put_all-some (x ∷ xs) h = put_all-none x xs

-- one byte further
pub line-goes-on : (text : List ℕ) (k : ℕ) → k < length text → nat_eq (get_or text k 0) 10 ≡ false
    → lines text ≡ put_all (take k text) (lines (drop k text)) → lines text ≡ put_all (take (k + 1) text) (lines (drop (k + 1) text))
line-goes-on text k h other so =
    so
    ∙ ap (λ d. put_all (take k text) (lines d)) (drop_more text k 0 h)
    ∙ ap (λ t. put_all (take k text) (if t then [] ∷ lines (drop (k + 1) text) else put (get_or text k 0) (lines (drop (k + 1) text)))) other
    ∙ sym (put_all-push (take k text) (get_or text k 0) (lines (drop (k + 1) text)))
    ∙ sym (ap (λ t. put_all t (lines (drop (k + 1) text))) (take_more text k 0 h))

-- the line ends here
pub line-ends : (text : List ℕ) (k : ℕ) → k < length text → nat_eq (get_or text k 0) 10 ≡ true
    → lines text ≡ put_all (take k text) (lines (drop k text)) → lines text ≡ take k text ∷ lines (drop (k + 1) text)
line-ends text k h lf so =
    so
    ∙ ap (λ d. put_all (take k text) (lines d)) (drop_more text k 0 h)
    ∙ ap (λ t. put_all (take k text) (if t then [] ∷ lines (drop (k + 1) text) else put (get_or text k 0) (lines (drop (k + 1) text)))) lf
    ∙ put_all-first (take k text) [] (lines (drop (k + 1) text))
    ∙ ap (λ l. l ∷ lines (drop (k + 1) text)) (append-nil (take k text))

pub whole_rest : (xs : List ℕ) (k : ℕ) → take (length xs - k) (drop k xs) ≡ drop k xs
whole_rest xs k = grind (arith, common_steps)

-- no LF is left
pub last-line : (text : List ℕ) (k : ℕ) → 0 < length text → k ≡ length text
    → lines text ≡ put_all (take k text) (lines (drop k text)) → lines text ≡ text ∷ lines (drop k text)
last-line text k some e so =
    let t : take k text ≡ text = grind (arith, common_steps) in
    let d : drop k text ≡ [] = grind (arith, common_steps) in
    so ∙ (λ j. put_all (t j) (lines (d j))) ∙ put_all-some text some ∙ ap (λ l. text ∷ lines l) (sym d)

-- one byte further
pub piece-goes-on : (mark : ℕ) (text : List ℕ) (k : ℕ) → k < length text → nat_eq (get_or text k 0) mark ≡ false
    → pieces mark text ≡ put_all (take k text) (pieces mark (drop k text)) → pieces mark text ≡ put_all (take (k + 1) text) (pieces mark (drop (k + 1) text))
piece-goes-on mark text k h other so =
    so
    ∙ ap (λ d. put_all (take k text) (pieces mark d)) (drop_more text k 0 h)
    ∙ ap (λ t. put_all (take k text) (if t then [] ∷ pieces mark (drop (k + 1) text) else put (get_or text k 0) (pieces mark (drop (k + 1) text)))) other
    ∙ sym (put_all-push (take k text) (get_or text k 0) (pieces mark (drop (k + 1) text)))
    ∙ sym (ap (λ t. put_all t (pieces mark (drop (k + 1) text))) (take_more text k 0 h))

-- the piece ends here
pub piece-ends : (mark : ℕ) (text : List ℕ) (k : ℕ) → k < length text → nat_eq (get_or text k 0) mark ≡ true
    → pieces mark text ≡ put_all (take k text) (pieces mark (drop k text)) → pieces mark text ≡ take k text ∷ pieces mark (drop (k + 1) text)
piece-ends mark text k h found so =
    so
    ∙ ap (λ d. put_all (take k text) (pieces mark d)) (drop_more text k 0 h)
    ∙ ap (λ t. put_all (take k text) (if t then [] ∷ pieces mark (drop (k + 1) text) else put (get_or text k 0) (pieces mark (drop (k + 1) text)))) found
    ∙ put_all-first (take k text) [] (pieces mark (drop (k + 1) text))
    ∙ ap (λ l. l ∷ pieces mark (drop (k + 1) text)) (append-nil (take k text))

-- no mark is left
pub last-piece : (mark : ℕ) (text : List ℕ) (k : ℕ) → k ≡ length text
    → pieces mark text ≡ put_all (take k text) (pieces mark (drop k text)) → pieces mark text ≡ text ∷ []
last-piece mark text k e so =
    let t : take k text ≡ text = grind (arith, common_steps) in
    let d : drop k text ≡ [] = grind (arith, common_steps) in
    so ∙ (λ j. put_all (t j) (pieces mark (d j))) ∙ put_all-first text [] [] ∙ ap (λ l. l ∷ []) (append-nil text)
