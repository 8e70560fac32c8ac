-- Expressions and statements one behind the other in postfix code.
use Rattle.std.specs.Prelude.{◌≡◌, ℕ, ◌-◌, ◌<◌, ◌^◌, List, [], ◌∷◌, ◌++◌, length, take}
use Rattle.ae_vmodule.specs.Numbered.{NumberedExpr, NumberedStmt, Piece, expr, stmt}
use Rattle.ae_vmodule.specs.Postfix.{coded_piece, run, step}
use Rattle.ae_vmodule.specs.declared.symbols.Symbol.{Symbol}
use Rattle.ae_vmodule.specs.declared.symbols.Symbol.TheVariants.{Name, Number, Const, Part, Index, Unary, Binary, Choose, One, More, Set, Put, When, Either, End, Then}

-- the symbols of pieces, of which the first is the last one in the code
abbrev pub codes : List Piece → List Symbol
codes [] = []
codes (p ∷ below) = codes below ++ coded_piece p

-- where each begins
abbrev pub starts_of : List Piece → List ℕ
starts_of [] = []
starts_of (p ∷ below) = starts_of below ++ length (codes below) ∷ []

abbrev pub size_of : List Piece → ℕ
size_of ps = length (codes ps)

-- these are the symbols of pieces that begin at these places
abbrev pub IsStack : List Symbol → List ℕ → Type 0
IsStack ss starts = (ss ≡ codes (run ss [])) × (starts ≡ starts_of (run ss []))

-- the symbol is a piece by itself
abbrev pub IsLeaf : Symbol → Type 0
IsLeaf (Name k) = Unit {0}
IsLeaf (Number p) = Unit {0}
IsLeaf (Const size fits high low) = low < 2 ^ 32
IsLeaf (Part k) = ⊥
IsLeaf (Index k) = ⊥
IsLeaf (Unary op) = ⊥
IsLeaf (Binary op size) = ⊥
IsLeaf (Choose size_a size_b) = ⊥
IsLeaf One = ⊥
IsLeaf (More size) = ⊥
IsLeaf (Set k) = ⊥
IsLeaf (Put k size) = ⊥
IsLeaf (When size) = ⊥
IsLeaf (Either size_a size_b) = ⊥
IsLeaf End = Unit {0}
IsLeaf (Then size) = ⊥

-- the symbol goes behind the last pieces, and takes away so many of the places where they begin
abbrev pub IsOperator : Symbol → ℕ → List Piece → Type 0
IsOperator s more ps =
    (codes (step s ps) ≡ codes ps ++ s ∷ [])
    × (starts_of (step s ps) ≡ take (length (starts_of ps) - more) (starts_of ps))

-- what stands on top
abbrev pub HasExpr : List Piece → Type 0
HasExpr ps = (a : NumberedExpr) × (below : List Piece) × (ps ≡ expr a ∷ below)

abbrev pub HasExprs : List Piece → Type 0
HasExprs ps = (b : NumberedExpr) × (a : NumberedExpr) × (below : List Piece) × (ps ≡ expr b ∷ expr a ∷ below)

abbrev pub HasChoice : List Piece → Type 0
HasChoice ps =
    (b : NumberedExpr) × (a : NumberedExpr) × (test : NumberedExpr) × (below : List Piece)
    × (ps ≡ expr b ∷ expr a ∷ expr test ∷ below)

abbrev pub HasStmt : List Piece → Type 0
HasStmt ps = (s : NumberedStmt) × (below : List Piece) × (ps ≡ stmt s ∷ below)

abbrev pub HasStmts : List Piece → Type 0
HasStmts ps = (r : NumberedStmt) × (s : NumberedStmt) × (below : List Piece) × (ps ≡ stmt r ∷ stmt s ∷ below)

abbrev pub HasWhen : List Piece → Type 0
HasWhen ps = (s : NumberedStmt) × (test : NumberedExpr) × (below : List Piece) × (ps ≡ stmt s ∷ expr test ∷ below)

abbrev pub HasEither : List Piece → Type 0
HasEither ps =
    (r : NumberedStmt) × (s : NumberedStmt) × (test : NumberedExpr) × (below : List Piece)
    × (ps ≡ stmt r ∷ stmt s ∷ expr test ∷ below)
