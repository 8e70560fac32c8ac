-- Expressions and statements with numbers in place of their names.
use Rattle.std.specs.Prelude.{ℕ, ◌+◌, Bool}
use Rattle.ae_vmodule.specs.declared.module.UnOp.{UnOp}
use Rattle.ae_vmodule.specs.declared.module.BinOp.{BinOp}

pub data NumberedExpr : Type 0 where
  name : (k : ℕ) → NumberedExpr
  constant : (size value : ℕ) (fits : Bool) → NumberedExpr
  place : (n : ℕ) → NumberedExpr
  part : (k high low : ℕ) → NumberedExpr
  index : (k : ℕ) (at : NumberedExpr) → NumberedExpr
  unary : (op : UnOp) (a : NumberedExpr) → NumberedExpr
  binary : (op : BinOp) (a b : NumberedExpr) → NumberedExpr
  choice : (test a b : NumberedExpr) → NumberedExpr
  concat_one : (a : NumberedExpr) → NumberedExpr
  concat_more : (a rest : NumberedExpr) → NumberedExpr

pub data NumberedStmt : Type 0 where
  set : (k : ℕ) (value : NumberedExpr) → NumberedStmt
  put : (k : ℕ) (at value : NumberedExpr) → NumberedStmt
  when : (test : NumberedExpr) (then : NumberedStmt) → NumberedStmt
  either : (test : NumberedExpr) (then otherwise : NumberedStmt) → NumberedStmt
  block_end : NumberedStmt
  block_more : (first rest : NumberedStmt) → NumberedStmt

-- an expression, or a statement
pub data Piece : Type 0 where
  expr : (t : NumberedExpr) → Piece
  stmt : (s : NumberedStmt) → Piece

-- how many expressions stand in one
abbrev pub parts_in : NumberedExpr → ℕ
parts_in (name k) = 1
parts_in (constant size value fits) = 1
parts_in (place n) = 1
parts_in (part k high low) = 1
parts_in (index k at) = parts_in at + 1
parts_in (unary op a) = parts_in a + 1
parts_in (binary op a b) = parts_in a + parts_in b + 1
parts_in (choice test a b) = parts_in test + parts_in a + parts_in b + 1
parts_in (concat_one a) = parts_in a + 1
parts_in (concat_more a rest) = parts_in a + parts_in rest + 1

-- how many statements stand in one
abbrev pub parts_in_stmt : NumberedStmt → ℕ
parts_in_stmt (set k value) = 1
parts_in_stmt (put k at value) = 1
parts_in_stmt (when test then) = parts_in_stmt then + 1
parts_in_stmt (either test then otherwise) = parts_in_stmt then + parts_in_stmt otherwise + 1
parts_in_stmt block_end = 1
parts_in_stmt (block_more first rest) = parts_in_stmt first + parts_in_stmt rest + 1
