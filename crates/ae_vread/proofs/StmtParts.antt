-- Statements of a block are gathered from the last on.
use Rattle.std.proofs.Common.{◌≡◌, ℕ, ◌+◌, ◌-◌, ◌<◌, ◌≤◌, List, [], ◌∷◌, ◌++◌, length, take, drop, refl, sym, ap, ◌∙◌, arith, append_assoc, append-nil}
use Rattle.std.proofs.lemmas.List.{take-append-drop, length-take-le, length-drop}
use Rattle.ae_vmodule.specs.Numbered as n
use Rattle.ae_vmodule.specs.Numbered.{NumberedStmt, Piece, stmt}
use Rattle.ae_vmodule.specs.Postfix.{step}
use Rattle.ae_vread.specs.ReadStmt.{pushed_stmts, block_parts, gather_stmts, HasStmts}
use Rattle.ae_vmodule.specs.Stacks as stacks
use Rattle.ae_vmodule.specs.declared.symbols.Symbol.TheVariants.{Then}

pub pushed_last : (ss : List NumberedStmt) (a : NumberedStmt) (below : List Piece) → pushed_stmts (ss ++ a ∷ []) below ≡ stmt a ∷ pushed_stmts ss below
pushed_last [] a below = refl
pushed_last (s ∷ ss) a below = pushed_last ss a (stmt s ∷ below)

-- so many of the last statements are gathered
pub gathered : (tail front : List NumberedStmt) (below : List Piece)
    → gather_stmts (length tail) (pushed_stmts (front ++ tail) below) ≡ stmt (block_parts tail) ∷ pushed_stmts front below
gathered [] front below = ap (λ ss. stmt n.block_end ∷ pushed_stmts ss below) (append-nil front)
gathered (a ∷ tail) front below =
    ap (λ ss. step (Then 0) (gather_stmts (length tail) (pushed_stmts ss below))) (sym (append_assoc front (a ∷ []) tail))
    ∙ ap (step (Then 0)) (gathered tail (front ++ a ∷ []) below)
    ∙ ap (λ ps. step (Then 0) (stmt (block_parts tail) ∷ ps)) (pushed_last front a below)

pub all_gathered : (ss : List NumberedStmt) (k : ℕ) (below : List Piece) → k ≡ length ss → gather_stmts k (pushed_stmts ss below) ≡ stmt (block_parts ss)
    ∷ below
all_gathered ss k below many = ap (λ j. gather_stmts j (pushed_stmts ss below)) many ∙ gathered ss [] below

last_of : (ss : List NumberedStmt) → 1 ≤ length ss → (front : List NumberedStmt) × (a : NumberedStmt) × (ss ≡ front ++ a ∷ [])
last_of [] some = absurd (omega (arith, some))
last_of (p ∷ []) some = ([], p, refl)
last_of (p ∷ q ∷ ss) some =
    let l = last_of (q ∷ ss) (omega arith) in
    (p ∷ l.0, l.1, ap (λ xs. p ∷ xs) l.2)

-- a block is on top of a statement while there is one more
pub more_stmts_there : (count k : ℕ) (pieces : List Piece) → HasStmts count pieces → k < count → stacks.HasStmts (gather_stmts k pieces)
more_stmts_there count k pieces h below =
    let j : ℕ = length h.0 - k in
    let long : length (take j h.0) ≡ j = length-take-le j h.0 (omega arith) in
    let l = last_of (take j h.0) (omega (arith, long, h.2, below)) in
    let tail = drop j h.0 in
    let many : length tail ≡ k = omega (arith, length-drop j h.0, h.2, below) in
    let whole : h.0 ≡ (l.0 ++ l.1 ∷ []) ++ tail = sym (take-append-drop j h.0) ∙ ap (λ xs. xs ++ tail) l.2 in
    let same : gather_stmts k pieces ≡ stmt (block_parts tail) ∷ stmt l.1 ∷ pushed_stmts l.0 h.1 =
    ap (gather_stmts k) h.3 ∙ ap (λ ss. gather_stmts k (pushed_stmts ss h.1)) whole
    ∙ ap (λ i. gather_stmts i (pushed_stmts ((l.0 ++ l.1 ∷ []) ++ tail) h.1)) (sym many) ∙ gathered tail (l.0 ++ l.1 ∷ []) h.1
    ∙ ap (λ ps. stmt (block_parts tail) ∷ ps) (pushed_last l.0 l.1 h.1) in
    (block_parts tail, l.1, pushed_stmts l.0 h.1, same)
