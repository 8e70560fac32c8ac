-- How a statement is written, and the tree that its tokens stand for (IEEE 1364-2001, narrowed to the profile).
use Rattle.std.specs.Prelude.{◌≡◌, ℕ, ◌+◌, ◌≤◌, List, [], ◌∷◌, ◌++◌, Bool, true, false, max}
use Rattle.ae_vtoken.specs.Tokens.{TokenTree, Name, Word, Mark}
use Rattle.ae_vmodule.specs.ModuleTree.{StmtTree, set, put, when, either, block_end, block_more, place}
use Rattle.ae_vread.specs.ExprForms.{NumberForm, number_token, number_value, ExprForm, level, IsFormedExpr, expr_tokens, expr_of, expr_depth}
use Rattle.ae_vtoken.specs.declared.token.Key.TheVariants.{If, Else, Begin, End}
use Rattle.ae_vtoken.specs.declared.token.Sign.TheVariants.{Open, Close, OpenBracket, CloseBracket, Semicolon, AtMost}

pub data StmtForm : Type 0 where
  -- `n <= value;`
  SetForm : (n : List ℕ) (value : ExprForm) → StmtForm
  -- `n[k] <= value;`
  PutPlaceForm : (n : List ℕ) (k : NumberForm) (value : ExprForm) → StmtForm
  -- `n[at] <= value;`
  PutForm : (n : List ℕ) (at value : ExprForm) → StmtForm
  -- `if (test) then`
  IfForm : (test : ExprForm) (then : StmtForm) → StmtForm
  -- `if (test) then else otherwise`
  IfElseForm : (test : ExprForm) (then otherwise : StmtForm) → StmtForm
  -- `begin body end`
  BlockForm : (body : StmtForm) → StmtForm
  -- inside a block alone: no statement, or a statement and further ones
  NoMore : StmtForm
  More : (first body : StmtForm) → StmtForm

-- whether it is a statement, and not the inside of a block
abbrev pub is_statement : StmtForm → Bool
is_statement NoMore = false
is_statement (More first body) = false
is_statement _ = true

-- an `else` behind it would be its own
abbrev pub is_open : StmtForm → Bool
is_open (IfForm test then) = true
is_open (IfElseForm test then otherwise) = is_open otherwise
is_open _ = false

-- an `else` belongs to the nearest `if` that has none
abbrev pub IsStatement : StmtForm → Type 0
IsStatement (SetForm n value) = (1 ≤ level value) × IsFormedExpr value
IsStatement (PutPlaceForm n k value) = (1 ≤ level value) × IsFormedExpr value
IsStatement (PutForm n at value) = (1 ≤ level at) × (1 ≤ level value) × IsFormedExpr at × IsFormedExpr value
IsStatement (IfForm test then) = (1 ≤ level test) × (is_statement then ≡ true) × IsFormedExpr test × IsStatement then
IsStatement (IfElseForm test then otherwise) =
    (1 ≤ level test) × (is_statement then ≡ true) × (is_statement otherwise ≡ true) × (is_open then ≡ false)
    × IsFormedExpr test × IsStatement then × IsStatement otherwise
IsStatement (BlockForm body) = (is_statement body ≡ false) × IsStatement body
IsStatement NoMore = Unit {0}
IsStatement (More first body) =
    (is_statement first ≡ true) × (is_statement body ≡ false) × IsStatement first × IsStatement body

abbrev pub test_tokens : ExprForm → List TokenTree
test_tokens test = Word If ∷ Mark Open ∷ (expr_tokens test ++ Mark Close ∷ [])

abbrev pub stmt_tokens : StmtForm → List TokenTree
stmt_tokens (SetForm n value) = Name n ∷ Mark AtMost ∷ (expr_tokens value ++ Mark Semicolon ∷ [])
stmt_tokens (PutPlaceForm n k value) =
    Name n ∷ Mark OpenBracket ∷ number_token k ∷ Mark CloseBracket ∷ Mark AtMost
    ∷ (expr_tokens value ++ Mark Semicolon ∷ [])
stmt_tokens (PutForm n at value) =
    Name n ∷ Mark OpenBracket ∷ (expr_tokens at ++ Mark CloseBracket ∷ Mark AtMost
    ∷ (expr_tokens value ++ Mark Semicolon ∷ []))
stmt_tokens (IfForm test then) = test_tokens test ++ stmt_tokens then
stmt_tokens (IfElseForm test then otherwise) =
    test_tokens test ++ (stmt_tokens then ++ Word Else ∷ stmt_tokens otherwise)
stmt_tokens (BlockForm body) = Word Begin ∷ (stmt_tokens body ++ Word End ∷ [])
stmt_tokens NoMore = []
stmt_tokens (More first body) = stmt_tokens first ++ stmt_tokens body

abbrev pub stmt_of : StmtForm → StmtTree
stmt_of (SetForm n value) = set n (expr_of value)
stmt_of (PutPlaceForm n k value) = put n (place (number_value k)) (expr_of value)
stmt_of (PutForm n at value) = put n (expr_of at) (expr_of value)
stmt_of (IfForm test then) = when (expr_of test) (stmt_of then)
stmt_of (IfElseForm test then otherwise) = either (expr_of test) (stmt_of then) (stmt_of otherwise)
stmt_of (BlockForm body) = stmt_of body
stmt_of NoMore = block_end
stmt_of (More first body) = block_more (stmt_of first) (stmt_of body)

-- one more than the deepest statement or expression in it
abbrev pub stmt_depth : StmtForm → ℕ
stmt_depth (SetForm n value) = expr_depth value + 1
stmt_depth (PutPlaceForm n k value) = expr_depth value + 1
stmt_depth (PutForm n at value) = max (expr_depth at) (expr_depth value) + 1
stmt_depth (IfForm test then) = max (expr_depth test) (stmt_depth then) + 1
stmt_depth (IfElseForm test then otherwise) = max (expr_depth test) (max (stmt_depth then) (stmt_depth otherwise)) + 1
stmt_depth (BlockForm body) = stmt_depth body + 1
stmt_depth NoMore = 0
stmt_depth (More first body) = max (stmt_depth first) (stmt_depth body)
