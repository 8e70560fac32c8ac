-- Reading a statement from a list of tokens, from the left.
use Rattle.std.specs.Prelude.{ℕ, zero, suc, ◌+◌, List, [], ◌∷◌, ◌++◌, max, length, Option, Some, None}
use Rattle.ae_vtoken.specs.Tokens.{TokenTree, Name, Word}
use Rattle.ae_vmodule.specs.ModuleTree.{StmtTree, set, put, when, either, block_end, block_more, place}
use Rattle.ae_vread.specs.TokenTests.{◌>>=◌, after_mark, after_word, first_number}
use Rattle.ae_vread.specs.Reading.{Found, found, deeper, whole_expression}
use Rattle.ae_vtoken.specs.declared.token.Key.TheVariants.{If, Else, Begin, End}
use Rattle.ae_vtoken.specs.declared.token.Sign.{Sign}
use Rattle.ae_vtoken.specs.declared.token.Sign.TheVariants.{Open, Close, OpenBracket, CloseBracket, Semicolon, AtMost}

-- a statement, its depth, and the tokens behind it
pub record StmtFound : Type 0 where
  pub tree : StmtTree
  pub depth : ℕ
  pub rest : List TokenTree

abbrev pub stmt_found : StmtTree → ℕ → List TokenTree → StmtFound
stmt_found tree depth rest = record { tree = tree; depth = depth; rest = rest }

-- statements of a block, the depth of the deepest, and the tokens behind them
pub record Body : Type 0 where
  pub trees : List StmtTree
  pub depth : ℕ
  pub rest : List TokenTree

abbrev pub body_of : List StmtTree → ℕ → List TokenTree → Body
body_of trees depth rest = record { trees = trees; depth = depth; rest = rest }

abbrev pub StmtReader : Type 0
StmtReader = List TokenTree → Option StmtFound

-- an expression, up to this sign
abbrev pub value_then : Sign → List TokenTree → Option Found
value_then s ts = whole_expression ts >>= λ x. after_mark s x.rest >>= λ us. Some (found x.tree x.depth us)

-- `<= value;`
abbrev pub assigned : List TokenTree → Option Found
assigned ts = after_mark AtMost ts >>= value_then Semicolon

abbrev pub set_from : List ℕ → Found → Option StmtFound
set_from n x = deeper x.depth >>= λ k. Some (stmt_found (set n x.tree) k x.rest)

abbrev pub put_place : List ℕ → ℕ → Found → Option StmtFound
put_place n at x = deeper x.depth >>= λ k. Some (stmt_found (put n (place at) x.tree) k x.rest)

abbrev pub put_from : List ℕ → Found → Found → Option StmtFound
put_from n at x = deeper (max at.depth x.depth) >>= λ k. Some (stmt_found (put n at.tree x.tree) k x.rest)

-- behind a name and a bracket: a number, or an expression
abbrev pub put_by : List ℕ → List TokenTree → Option (ℕ × List TokenTree) → Option StmtFound
put_by n ts None = value_then CloseBracket ts >>= λ at. assigned at.rest >>= put_from n at
put_by n ts (Some k) = after_mark CloseBracket k.1 >>= λ us. assigned us >>= put_place n k.0

-- behind a name: an index, or none
abbrev pub target_from : List ℕ → List TokenTree → Option (List TokenTree) → Option StmtFound
target_from n ts None = assigned ts >>= set_from n
target_from n ts (Some us) = put_by n us (first_number us)

-- a test in its parentheses
abbrev pub test_then : List TokenTree → Option Found
test_then ts = after_mark Open ts >>= value_then Close

abbrev pub either_of : Found → StmtFound → StmtFound → Option StmtFound
either_of x y z =
    deeper (max x.depth (max y.depth z.depth)) >>= λ k. Some (stmt_found (either x.tree y.tree z.tree) k z.rest)

abbrev pub alone_of : Found → StmtFound → Option StmtFound
alone_of x y = deeper (max x.depth y.depth) >>= λ k. Some (stmt_found (when x.tree y.tree) k y.rest)

-- an `else` behind the statement read last belongs to it
abbrev pub with_else : StmtReader → Found → StmtFound → Option (List TokenTree) → Option StmtFound
with_else read x y None = alone_of x y
with_else read x y (Some us) = read us >>= either_of x y

abbrev pub choice_from : StmtReader → Found → Option StmtFound
choice_from read x = read x.rest >>= λ y. with_else read x y (after_word Else y.rest)

abbrev pub block_of : List StmtTree → StmtTree
block_of [] = block_end
block_of (x ∷ xs) = block_more x (block_of xs)

abbrev pub with_statement : Body → StmtFound → Body
with_statement b s = body_of (b.trees ++ s.tree ∷ []) (max b.depth s.depth) s.rest

abbrev pub by_end : StmtReader → (Body → Option Body) → Body → Option (List TokenTree) → Option Body
by_end read go_on b None = read b.rest >>= λ s. go_on (with_statement b s)
by_end read go_on b (Some us) = Some (body_of b.trees b.depth us)

-- the statements up to an `end`, at most so many
abbrev pub body : StmtReader → ℕ → Body → Option Body
body read zero b = None
body read (suc k) b = by_end read (body read k) b (after_word End b.rest)

abbrev pub blocked : Body → Option StmtFound
blocked b = deeper b.depth >>= λ k. Some (stmt_found (block_of b.trees) k b.rest)

-- the statements behind a `begin`, up to its `end`
abbrev pub block_at : StmtReader → List TokenTree → Option StmtFound
block_at read ts = body read (length ts) (body_of [] 0 ts) >>= blocked

-- what a token begins where a statement is wanted
pub data StmtStart : Type 0 where
  StartTarget : (n : List ℕ) → StmtStart
  StartIf : StmtStart
  StartBegin : StmtStart
  NoStmt : StmtStart

abbrev pub stmt_start : TokenTree → StmtStart
stmt_start (Name n) = StartTarget n
stmt_start (Word If) = StartIf
stmt_start (Word Begin) = StartBegin
stmt_start _ = NoStmt

abbrev pub statement_from : StmtReader → StmtStart → List TokenTree → Option StmtFound
statement_from read (StartTarget n) ts = target_from n ts (after_mark OpenBracket ts)
statement_from read StartIf ts = test_then ts >>= choice_from read
statement_from read StartBegin ts = body read (length ts) (body_of [] 0 ts) >>= blocked
statement_from read NoStmt ts = None

abbrev pub statement_at : StmtReader → List TokenTree → Option StmtFound
statement_at read [] = None
statement_at read (t ∷ ts) = statement_from read (stmt_start t) ts

-- a statement whose parts nest at most so deep
abbrev pub statement : ℕ → StmtReader
statement zero ts = None
statement (suc d) ts = statement_at (statement d) ts

-- a statement, at most 256 deep
unfoldable pub whole_statement : StmtReader
whole_statement ts = statement 256 ts
