-- A module as a tree, apart from where its parts lie in memory.
use Rattle.std.specs.Prelude.{ℕ, Bool, List}
use Rattle.ae_vmodule.specs.declared.module.NetKind.{NetKind}
use Rattle.ae_vmodule.specs.declared.module.UnOp.{UnOp}
use Rattle.ae_vmodule.specs.declared.module.BinOp.{BinOp}

-- an expression
pub data ExprTree : Type 0 where
  name : (n : List ℕ) → ExprTree
  constant : (size value : ℕ) (fits : Bool) → ExprTree
  -- a decimal number as an index
  place : (n : ℕ) → ExprTree
  -- `n[high:low]`
  part : (n : List ℕ) (high low : ℕ) → ExprTree
  -- `n[at]`
  index : (n : List ℕ) (at : ExprTree) → ExprTree
  unary : (op : UnOp) (a : ExprTree) → ExprTree
  binary : (op : BinOp) (a b : ExprTree) → ExprTree
  -- `test ? a : b`
  choice : (test a b : ExprTree) → ExprTree
  -- `{a}`
  concat_one : (a : ExprTree) → ExprTree
  -- `{a, ..}`, where rest is the concatenation of the parts behind a
  concat_more : (a rest : ExprTree) → ExprTree

-- a statement
pub data StmtTree : Type 0 where
  -- `n <= value;`
  set : (n : List ℕ) (value : ExprTree) → StmtTree
  -- `n[at] <= value;`
  put : (n : List ℕ) (at value : ExprTree) → StmtTree
  -- `if (test) then`
  when : (test : ExprTree) (then : StmtTree) → StmtTree
  -- `if (test) then else otherwise`
  either : (test : ExprTree) (then otherwise : StmtTree) → StmtTree
  -- `begin end`
  block_end : StmtTree
  -- `begin first .. end`, where rest is the block of the statements behind first
  block_more : (first rest : StmtTree) → StmtTree

-- a declared name; the header is item 0
pub record NetTree : Type 0 where
  pub name : List ℕ
  pub width : ℕ
  pub ranged : Bool
  pub kind : NetKind
  pub item : ℕ

pub record DriveTree : Type 0 where
  pub name : List ℕ
  pub value : ExprTree

pub data ItemTree : Type 0 where
  -- a declaration: the names that it gives a value
  nets : (drives : List DriveTree) → ItemTree
  assigns : (drives : List DriveTree) → ItemTree
  always : (clock : List ℕ) (body : StmtTree) → ItemTree

-- a module: its name, its declared names in text order, ports first, and its items
pub record ModuleTree : Type 0 where
  pub name : List ℕ
  pub nets : List NetTree
  pub items : List ItemTree
