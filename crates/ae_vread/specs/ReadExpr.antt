-- What the readers of expressions give, apart from where it lies in memory.
use Rattle.std.specs.Prelude.{◌≡◌, ℕ, ◌+◌, List, ◌∷◌, length, Option, Some, Result, Ok, Err}
use Rattle.ae_vtoken.specs.Ahead.{ahead}
use Rattle.ae_vmodule.specs.ModuleTree.{ExprTree}
use Rattle.ae_vmodule.specs.Numbered.{NumberedExpr, Piece, expr}
use Rattle.ae_vmodule.specs.View.{expr_tree}
use Rattle.ae_vmodule.specs.Held.{held}
use Rattle.ae_vmodule.specs.Stacks.{size_of}
use Rattle.ae_vmodule.specs.Words.{Extends}
use Rattle.ae_vread.specs.Reading.{Found}
use Rattle.ae_vread.specs.Read.{Fails}
use Rattle.ae_vread.specs.declared.reading.Reader.{Reader}
use Rattle.ae_vread.specs.declared.reading.ReadFault.{ReadFault}

-- the expression has this tree, whatever names are still to come
abbrev pub Means : List (List ℕ) → NumberedExpr → ExprTree → Type 0
Means words t tree = (ws : List (List ℕ)) → Extends words ws → expr_tree ws t ≡ tree

-- on top of other pieces the expression stands that was read, of this depth, and the tokens behind it are ahead
pub record Holds (below : List Piece) (r : Reader) (depth : ℕ) (x : Found) : Type 0 where
  pub top : NumberedExpr
  pub pieces : held r.stack ≡ expr top ∷ below
  pub means : Means r.words top x.tree
  pub deep : depth ≡ x.depth
  pub rest : ahead r.tokens ≡ x.rest

-- two expressions, the second on top
pub record HoldsTwo (below : List Piece) (r : Reader) (deep_x deep_y : ℕ) (x y : Found) : Type 0 where
  pub first : NumberedExpr
  pub second : NumberedExpr
  pub pieces : held r.stack ≡ expr second ∷ expr first ∷ below
  pub means_x : Means r.words first x.tree
  pub means_y : Means r.words second y.tree
  pub is_x : deep_x ≡ x.depth
  pub is_y : deep_y ≡ y.depth
  pub rest : ahead r.tokens ≡ y.rest

-- three expressions
pub record HoldsThree (below : List Piece) (r : Reader) (deep_x deep_y deep_z : ℕ) (x y z : Found) : Type 0 where
  pub test : NumberedExpr
  pub first : NumberedExpr
  pub second : NumberedExpr
  pub pieces : held r.stack ≡ expr second ∷ expr first ∷ expr test ∷ below
  pub means_x : Means r.words test x.tree
  pub means_y : Means r.words first y.tree
  pub means_z : Means r.words second z.tree
  pub is_x : deep_x ≡ x.depth
  pub is_y : deep_y ≡ y.depth
  pub is_z : deep_z ≡ z.depth
  pub rest : ahead r.tokens ≡ z.rest

-- what the code returned is what reading gives, unless memory ran out
abbrev pub Reads : List Piece → List (List ℕ) → Reader → Result ℕ ReadFault → Option Found → Type 0
Reads below words r (Ok depth) read = (x : Found) × (read ≡ Some x) × Holds below r depth x × Extends words r.words
Reads below words r (Err e) read = Fails e read

-- how many symbols and tokens there are
abbrev pub used : Reader → ℕ
used r = size_of (held r.stack) + length (ahead r.tokens)
