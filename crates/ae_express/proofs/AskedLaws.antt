-- The widths of the parts of concatenations, as they are put behind one another and taken again.
use Rattle.std.proofs.Common.{ℕ, ◌≡◌, ◌+◌, ◌-◌, ◌≤◌, List, [], ◌∷◌, ◌++◌, length, refl, sym, ap, ◌∙◌, arith}
use Rattle.std.proofs.lemmas.List.{append_assoc, append_cancel_right, length-append}
use Rattle.ae_express.specs.Asked.{EndsWith}

pub ends_tail : (s xs ys : List ℕ) → EndsWith s (xs ++ ys) → EndsWith s ys
ends_tail s xs ys h = record { before = h.before ++ xs; whole = h.whole ∙ sym (append_assoc h.before xs ys) }

-- what is left where the end is taken
pub ends_front : (s t xs ys : List ℕ) → EndsWith s (xs ++ ys) → s ≡ t ++ ys → EndsWith t xs
ends_front s t xs ys h e = record {
  before = h.before;
  whole = append_cancel_right t (h.before ++ xs) ys (sym e ∙ h.whole ∙ sym (append_assoc h.before xs ys));
}

pub taken_both : (s t u xs ys : List ℕ) → s ≡ t ++ ys → t ≡ u ++ xs → s ≡ u ++ (xs ++ ys)
taken_both s t u xs ys e f = e ∙ ap (λ k. k ++ ys) f ∙ append_assoc u xs ys

-- the width of a part is taken, and then those of the parts inside it
pub taken_part : (s t u xs : List ℕ) (o r : ℕ) → s ≡ t ++ r ∷ [] → r ≡ o → t ≡ u ++ xs → s ≡ u ++ (xs ++ o ∷ [])
taken_part s t u xs o r e f g = taken_both s t u xs (o ∷ []) (e ∙ ap (λ k. t ++ k ∷ []) f) g

last_is : (xs ys : List ℕ) (x y : ℕ) → xs ++ x ∷ [] ≡ ys ++ y ∷ [] → (x ≡ y) × (xs ≡ ys)
last_is [] [] x y e = (cc, refl)
last_is [] (b ∷ ys) x y e = absurd (let l = ap length e in let m = length-append ys (y ∷ []) in omega arith)
last_is (a ∷ xs) [] x y e = absurd (let l = ap length e in let m = length-append xs (x ∷ []) in omega arith)
last_is (a ∷ xs) (b ∷ ys) x y e =
    let p : a ≡ b = cc in
    let q : xs ++ x ∷ [] ≡ ys ++ y ∷ [] = cc in
    let r = last_is xs ys x y q in
    let s = r.1 in
    (r.0, cc)

-- the last number, and what is left
pub last_of : (s t xs : List ℕ) (o r : ℕ) → EndsWith s (xs ++ o ∷ []) → s ≡ t ++ r ∷ [] → (r ≡ o) × EndsWith t xs
last_of s t xs o r h e =
    let q = last_is t (h.before ++ xs) r o (sym e ∙ h.whole ∙ sym (append_assoc h.before xs (o ∷ []))) in
    (q.0, record { before = h.before; whole = q.1 })

pub ends_some : (s xs : List ℕ) (o : ℕ) → EndsWith s (xs ++ o ∷ []) → 1 ≤ length s
ends_some s xs o h =
    let l = ap length h.whole in
    let m = length-append h.before (xs ++ o ∷ []) in
    let n = length-append xs (o ∷ []) in
    omega arith
