-- What the readers of statements give, apart from where it lies in memory.
use Rattle.std.specs.Prelude.{◌≡◌, ℕ, zero, suc, List, [], ◌∷◌, length, map, Option, Some, Result, Ok, Err}
use Rattle.ae_vtoken.specs.Ahead.{ahead}
use Rattle.ae_vmodule.specs.ModuleTree.{StmtTree}
use Rattle.ae_vmodule.specs.Numbered as n
use Rattle.ae_vmodule.specs.Numbered.{NumberedExpr, NumberedStmt, Piece, expr, stmt}
use Rattle.ae_vmodule.specs.Postfix.{step}
use Rattle.ae_vmodule.specs.Held.{held}
use Rattle.ae_vmodule.specs.Words.{Extends}
use Rattle.ae_vread.specs.Reading.{Found}
use Rattle.ae_vread.specs.StmtReading.{StmtFound, Body}
use Rattle.ae_vread.specs.Read.{Fails}
use Rattle.ae_vread.specs.ReadExpr.{Means}
use Rattle.ae_vmodule.specs.View.{stmt_tree}
use Rattle.ae_vmodule.specs.declared.symbols.Symbol.TheVariants.{End, Then}
use Rattle.ae_vread.specs.declared.reading.Reader.{Reader}
use Rattle.ae_vread.specs.declared.reading.ReadFault.{ReadFault}

-- the statement has this tree, whatever names are still to come
abbrev pub MeansStmt : List (List ℕ) → NumberedStmt → StmtTree → Type 0
MeansStmt words s tree = (ws : List (List ℕ)) → Extends words ws → stmt_tree ws s ≡ tree

-- on top of other pieces the statement stands that was read, of this depth, and the tokens behind it are ahead
pub record HoldsStmt (below : List Piece) (r : Reader) (depth : ℕ) (x : StmtFound) : Type 0 where
  pub top : NumberedStmt
  pub pieces : held r.stack ≡ stmt top ∷ below
  pub means : MeansStmt r.words top x.tree
  pub deep : depth ≡ x.depth
  pub rest : ahead r.tokens ≡ x.rest

-- a place, and a value on top of it
pub record HoldsPlace (below : List Piece) (r : Reader) (place depth : ℕ) (x : Found) : Type 0 where
  pub value : NumberedExpr
  pub pieces : held r.stack ≡ expr value ∷ expr (n.place place) ∷ below
  pub means : Means r.words value x.tree
  pub deep : depth ≡ x.depth
  pub rest : ahead r.tokens ≡ x.rest

-- a test, and a statement on top of it
pub record HoldsWhen (below : List Piece) (r : Reader) (deep_x deep_y : ℕ) (x : Found) (y : StmtFound) : Type 0 where
  pub test : NumberedExpr
  pub then : NumberedStmt
  pub pieces : held r.stack ≡ stmt then ∷ expr test ∷ below
  pub means_x : Means r.words test x.tree
  pub means_y : MeansStmt r.words then y.tree
  pub is_x : deep_x ≡ x.depth
  pub is_y : deep_y ≡ y.depth
  pub rest : ahead r.tokens ≡ y.rest

-- a test, and two statements on top of it
pub record HoldsEither (below : List Piece) (r : Reader) (deep_x deep_y deep_z : ℕ) (x : Found)
    (y z : StmtFound) : Type 0 where
  pub test : NumberedExpr
  pub then : NumberedStmt
  pub otherwise : NumberedStmt
  pub pieces : held r.stack ≡ stmt otherwise ∷ stmt then ∷ expr test ∷ below
  pub means_x : Means r.words test x.tree
  pub means_y : MeansStmt r.words then y.tree
  pub means_z : MeansStmt r.words otherwise z.tree
  pub is_x : deep_x ≡ x.depth
  pub is_y : deep_y ≡ y.depth
  pub is_z : deep_z ≡ z.depth
  pub rest : ahead r.tokens ≡ z.rest

-- what the code returned is what reading gives, unless memory ran out
abbrev pub ReadsStmt : List Piece → List (List ℕ) → Reader → Result ℕ ReadFault → Option StmtFound → Type 0
ReadsStmt below words r (Ok depth) read =
    (x : StmtFound) × (read ≡ Some x) × HoldsStmt below r depth x × Extends words r.words
ReadsStmt below words r (Err e) read = Fails e read

-- statements on top of pieces, the last on top
abbrev pub pushed_stmts : List NumberedStmt → List Piece → List Piece
pushed_stmts [] below = below
pushed_stmts (s ∷ ss) below = pushed_stmts ss (stmt s ∷ below)

-- their block
abbrev pub block_parts : List NumberedStmt → NumberedStmt
block_parts [] = n.block_end
block_parts (s ∷ ss) = n.block_more s (block_parts ss)

abbrev pub HasStmts : ℕ → List Piece → Type 0
HasStmts count pieces =
    (ss : List NumberedStmt) × (below : List Piece) × (length ss ≡ count) × (pieces ≡ pushed_stmts ss below)

-- the block of the last so many statements
abbrev pub gather_stmts : ℕ → List Piece → List Piece
gather_stmts zero pieces = step End pieces
gather_stmts (suc k) pieces = step (Then 0) (gather_stmts k pieces)

abbrev pub MeanAllStmts : List (List ℕ) → List NumberedStmt → List StmtTree → Type 0
MeanAllStmts words ss trees = (ws : List (List ℕ)) → Extends words ws → map (stmt_tree ws) ss ≡ trees

-- the statements that were read stand on top of other pieces
pub record HoldsBody (below : List Piece) (r : Reader) (depth count : ℕ) (b : Body) : Type 0 where
  pub stmts : List NumberedStmt
  pub many : length stmts ≡ count
  pub pieces : held r.stack ≡ pushed_stmts stmts below
  pub means : MeanAllStmts r.words stmts b.trees
  pub deep : depth ≡ b.depth
  pub rest : ahead r.tokens ≡ b.rest
