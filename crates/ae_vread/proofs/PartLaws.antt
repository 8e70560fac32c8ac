-- Parts of a concatenation are gathered from the last on.
use Rattle.std.proofs.Common.{◌≡◌, ℕ, ◌+◌, ◌-◌, ◌<◌, ◌≤◌, List, [], ◌∷◌, ◌++◌, length, take, drop, refl, sym, ap, ◌∙◌, arith, append_assoc}
use Rattle.std.proofs.lemmas.List.{take-append-drop, length-take-le, length-drop}
use Rattle.ae_vmodule.specs.Numbered.{NumberedExpr, Piece, expr}
use Rattle.ae_vmodule.specs.Postfix.{step}
use Rattle.ae_vread.specs.Parts.{pushed, concat_parts, gather, HasParts}
use Rattle.ae_vmodule.specs.Stacks.{HasExpr, HasExprs}
use Rattle.ae_vmodule.specs.declared.symbols.Symbol.TheVariants.{One, More}

pub pushed_last : (ps : List NumberedExpr) (a : NumberedExpr) (below : List Piece) → pushed (ps ++ a ∷ []) below ≡ expr a ∷ pushed ps below
pushed_last [] a below = refl
pushed_last (p ∷ ps) a below = pushed_last ps a (expr p ∷ below)

-- so many of the last parts are gathered
pub gathered : (tail front : List NumberedExpr) (a : NumberedExpr) (below : List Piece)
    → gather (length tail) (pushed (front ++ a ∷ tail) below) ≡ expr (concat_parts (a ∷ tail)) ∷ pushed front below
gathered [] front a below = ap (step One) (pushed_last front a below)
gathered (b ∷ tail) front a below =
    ap (λ ps. step (More 0) (gather (length tail) (pushed ps below))) (sym (append_assoc front (a ∷ []) (b ∷ tail)))
    ∙ ap (step (More 0)) (gathered tail (front ++ a ∷ []) b below)
    ∙ ap (λ ps. step (More 0) (expr (concat_parts (b ∷ tail)) ∷ ps)) (pushed_last front a below)

pub all_gathered : (ps : List NumberedExpr) (n : ℕ) (below : List Piece) → n + 1 ≡ length ps → gather n (pushed ps below) ≡ expr (concat_parts ps) ∷ below
all_gathered [] n below many = absurd (omega (arith, many))
all_gathered (p ∷ ps) n below many =
    ap (λ k. gather k (pushed (p ∷ ps) below)) (let e : n ≡ length ps = omega (arith, many) in e) ∙ gathered ps [] p below

last_of : (ps : List NumberedExpr) → 1 ≤ length ps → (front : List NumberedExpr) × (a : NumberedExpr) × (ps ≡ front ++ a ∷ [])
last_of [] some = absurd (omega (arith, some))
last_of (p ∷ []) some = ([], p, refl)
last_of (p ∷ q ∷ ps) some =
    let l = last_of (q ∷ ps) (omega arith) in
    (p ∷ l.0, l.1, ap (λ xs. p ∷ xs) l.2)

split_at : (ps : List NumberedExpr) (n : ℕ) → n + 1 < length ps
    → (front : List NumberedExpr) × (b : NumberedExpr) × (a : NumberedExpr) × (tail : List NumberedExpr) × (ps ≡ (front ++ b ∷ []) ++ a ∷ tail)
    × (length tail ≡ n)
split_at ps n below =
    let k : ℕ = length ps - (n + 1) in
    let many : length (take k ps) ≡ k = length-take-le k ps (omega arith) in
    let l = last_of (take k ps) (omega (arith, many)) in
    elim (drop k ps) as (λ xs. drop k ps ≡ xs → (front : List NumberedExpr) × (b : NumberedExpr) × (a : NumberedExpr) × (tail : List NumberedExpr)
    × (ps ≡ (front ++ b ∷ []) ++ a ∷ tail) × (length tail ≡ n)) [
      | [] ↦ λ e. absurd (omega (arith, ap length e, length-drop k ps))
      | a ∷ tail ↦ λ e. (l.0, l.1, a, tail, sym (take-append-drop k ps) ∙ (λ i. l.2 i ++ e i), (omega (arith, ap length e, length-drop k ps)))
    ] refl

-- two expressions are on top while there is a part more
pub more_parts_there : (count n : ℕ) (pieces : List Piece) → HasParts count pieces → n + 1 < count → HasExprs (gather n pieces)
more_parts_there count n pieces h below =
    let s = split_at h.0 n (omega (arith, h.3, below)) in
    let same : gather n pieces ≡ expr (concat_parts (s.2 ∷ s.3)) ∷ expr s.1 ∷ pushed s.0 h.1 =
    ap (gather n) h.4 ∙ ap (λ ps. gather n (pushed ps h.1)) s.4
    ∙ ap (λ k. gather k (pushed ((s.0 ++ s.1 ∷ []) ++ s.2 ∷ s.3) h.1)) (sym s.5) ∙ gathered s.3 (s.0 ++ s.1 ∷ []) s.2 h.1
    ∙ ap (λ ps. expr (concat_parts (s.2 ∷ s.3)) ∷ ps) (pushed_last s.0 s.1 h.1) in
    (concat_parts (s.2 ∷ s.3), s.1, pushed s.0 h.1, same)

pub some_part : (count : ℕ) (pieces : List Piece) → HasParts count pieces → HasExpr pieces
some_part count pieces h =
    let l = last_of h.0 (omega (arith, h.2, h.3)) in
    (l.1, pushed l.0 h.1, h.4 ∙ ap (λ ps. pushed ps h.1) l.2 ∙ pushed_last l.0 l.1 h.1)
