-- Steps of a gap.
use Rattle.std.proofs.Common.{◌≡◌, ℕ, ◌+◌, ◌<◌, List, ◌∷◌, length, true, false, sym, ap, ◌∙◌, subst, arith, drop, get_or, nat_eq}
use Rattle.std.specs.Prelude.{codes}
use Rattle.std.specs.List.{starts_with}
use Rattle.std.proofs.lemmas.List.{drop_more}
use Rattle.std.proofs.lemmas.Bool.{cond-true, cond-false}
use Rattle.ae_vtoken.specs.Tokens.{is_blank, after_gap, Between, Opened, InBlock}

-- at a list with a byte in front
block_goes_list : (from : List ℕ) (b : ℕ) (bs : List ℕ) → starts_with nat_eq (b ∷ bs) (codes "*/") ≡ false
    → after_gap (InBlock from) (b ∷ bs) ≡ after_gap (InBlock from) bs
block_goes_list from b bs h = cond-false _ _ _ h

block_ends_list : (from : List ℕ) (b c : ℕ) (bs : List ℕ) → starts_with nat_eq (b ∷ c ∷ bs) (codes "*/") ≡ true
    → after_gap (InBlock from) (b ∷ c ∷ bs) ≡ after_gap Between bs
block_ends_list from b c bs h = cond-true _ _ _ h

opens_list : (b : ℕ) (bs : List ℕ) → is_blank b ≡ false → starts_with nat_eq (b ∷ bs) (codes "//") ≡ false → starts_with nat_eq (b ∷ bs) (codes "/*") ≡ true
    → after_gap Between (b ∷ bs) ≡ after_gap (Opened (b ∷ bs)) bs
opens_list b bs blank line block = cond-false _ _ _ blank ∙ cond-false _ _ _ line ∙ cond-true _ _ _ block

-- the same at a place of the text
pub block_goes : (from text : List ℕ) (i : ℕ) → i < length text → starts_with nat_eq (drop i text) (codes "*/") ≡ false
    → after_gap (InBlock from) (drop i text) ≡ after_gap (InBlock from) (drop (i + 1) text)
block_goes from text i h not_end =
    let front = drop_more text i 0 h in
    ap (after_gap (InBlock from)) front ∙ block_goes_list from (get_or text i 0) (drop (i + 1) text)
    (subst (λ l. starts_with nat_eq l (codes "*/") ≡ false) front not_end)

pub block_ends : (from text : List ℕ) (i : ℕ) → i + 1 < length text → starts_with nat_eq (drop i text) (codes "*/") ≡ true
    → after_gap (InBlock from) (drop i text) ≡ after_gap Between (drop (i + 2) text)
block_ends from text i h end =
    let first = drop_more text i 0 (omega arith) in
    let second = drop_more text (i + 1) 0 h in
    let front = first ∙ ap (λ l. get_or text i 0 ∷ l) second in
    ap (after_gap (InBlock from)) front ∙ block_ends_list from (get_or text i 0) (get_or text (i + 1) 0) (drop (i + 1 + 1) text)
    (subst (λ l. starts_with nat_eq l (codes "*/") ≡ true) front end) ∙
    ap (λ n. after_gap Between (drop n text)) (let e : i + 1 + 1 ≡ i + 2 = omega arith in e)

pub opens : (text : List ℕ) (i : ℕ) → i < length text → is_blank (get_or text i 0) ≡ false → starts_with nat_eq (drop i text) (codes "//") ≡ false
    → starts_with nat_eq (drop i text) (codes "/*") ≡ true → after_gap Between (drop i text) ≡ after_gap (Opened (drop i text)) (drop (i + 1) text)
opens text i h blank line block =
    let front = drop_more text i 0 h in
    let step = opens_list (get_or text i 0) (drop (i + 1) text) blank (subst (λ l. starts_with nat_eq l (codes "//") ≡ false) front line)
    (subst (λ l. starts_with nat_eq l (codes "/*") ≡ true) front block) in
    ap (after_gap Between) front ∙ step ∙ ap (λ l. after_gap (Opened l) (drop (i + 1) text)) (sym front)

pub block_opens : (slash text : List ℕ) (i : ℕ) → i + 1 < length text
    → after_gap (Opened slash) (drop (i + 1) text) ≡ after_gap (InBlock slash) (drop (i + 2) text)
block_opens slash text i h =
    ap (after_gap (Opened slash)) (drop_more text (i + 1) 0 h) ∙
    ap (λ n. after_gap (InBlock slash) (drop n text)) (let e : i + 1 + 1 ≡ i + 2 = omega arith in e)
