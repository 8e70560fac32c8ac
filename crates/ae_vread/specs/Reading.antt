-- Reading an expression from a list of tokens, from the left, by the strengths of the operators.
use Rattle.std.specs.Prelude.{ℕ, zero, suc, ◌+◌, List, [], ◌∷◌, ◌++◌, Bool, max, length, Option, Some, None, if◌then◌else◌, nat_lt, nat_le}
use Rattle.ae_vtoken.specs.Tokens.{TokenTree, Name, Sized, Mark}
use Rattle.ae_vmodule.specs.ModuleTree.{ExprTree, name, constant, place, part, index, unary, binary, choice, concat_one, concat_more}
use Rattle.ae_vread.specs.ExprForms.{strength}
use Rattle.ae_vread.specs.TokenTests.{◌>>=◌, after_mark, first_number}
use Rattle.ae_vtoken.specs.declared.token.Sign.{Sign}
use Rattle.ae_vtoken.specs.declared.token.Sign.TheVariants.{Open, OpenBracket, CloseBracket, OpenBrace, CloseBrace, Close, Comma, Question, Colon, Plus, Minus, Star, Amp, Bar, Caret, Tilde, Bang, Less, Greater, AtMost, AtLeast, Same, Differs, BothAmp, BothBar, ShiftLeft, ShiftRight}
use Rattle.ae_vmodule.specs.declared.module.UnOp.{UnOp}
use Rattle.ae_vmodule.specs.declared.module.UnOp.TheVariants.{Not, Flip}
use Rattle.ae_vmodule.specs.declared.module.BinOp.{BinOp}
use Rattle.ae_vmodule.specs.declared.module.BinOp.TheVariants.{Mul, Add, Sub, Shl, Shr, Lt, Le, Gt, Ge, Eq, Ne, And, Xor, Or, Both, Either}

-- the operator that a sign is
abbrev pub sign_infix : Sign → Option BinOp
sign_infix Star = Some Mul
sign_infix Plus = Some Add
sign_infix Minus = Some Sub
sign_infix ShiftLeft = Some Shl
sign_infix ShiftRight = Some Shr
sign_infix Less = Some Lt
sign_infix AtMost = Some Le
sign_infix Greater = Some Gt
sign_infix AtLeast = Some Ge
sign_infix Same = Some Eq
sign_infix Differs = Some Ne
sign_infix Amp = Some And
sign_infix Caret = Some Xor
sign_infix Bar = Some Or
sign_infix BothAmp = Some Both
sign_infix BothBar = Some Either
sign_infix _ = None

abbrev pub infix_of : TokenTree → Option BinOp
infix_of (Mark s) = sign_infix s
infix_of _ = None

abbrev pub infix_of_first : Option TokenTree → Option BinOp
infix_of_first None = None
infix_of_first (Some t) = infix_of t

-- what a token begins where an operand is wanted
pub data Start : Type 0 where
  StartName : (n : List ℕ) → Start
  StartConst : (size value : ℕ) (fits : Bool) → Start
  StartOpen : Start
  StartBrace : Start
  StartPrefix : (op : UnOp) → Start
  NoStart : Start

abbrev pub sign_start : Sign → Start
sign_start Open = StartOpen
sign_start OpenBrace = StartBrace
sign_start Bang = StartPrefix Not
sign_start Tilde = StartPrefix Flip
sign_start _ = NoStart

abbrev pub start_of : TokenTree → Start
start_of (Name n) = StartName n
start_of (Sized size value fits) = StartConst size value fits
start_of (Mark s) = sign_start s
start_of _ = NoStart

-- a tree, its depth, and the tokens behind it
pub record Found : Type 0 where
  pub tree : ExprTree
  pub depth : ℕ
  pub rest : List TokenTree

abbrev pub found : ExprTree → ℕ → List TokenTree → Found
found tree depth rest = record { tree = tree; depth = depth; rest = rest }

-- reads an expression whose outermost operator is at least so strong
abbrev pub Reader : Type 0
Reader = ℕ → List TokenTree → Option Found

-- one level more, up to the greatest depth
abbrev pub deeper : ℕ → Option ℕ
deeper n = if nat_lt n 256 then Some (n + 1) else None

abbrev pub closed : Found → Option Found
closed x = after_mark Close x.rest >>= λ ts. deeper x.depth >>= λ k. Some (found x.tree k ts)

-- behind a name, a bracket and a number: the end, or a colon and a second number
abbrev pub placed : List ℕ → ℕ → List TokenTree → Option (List TokenTree) → Option Found
placed n k ts None = after_mark CloseBracket ts >>= λ us. Some (found (index n (place k)) 2 us)
placed n k ts (Some us) =
    first_number us >>= λ l. after_mark CloseBracket l.1 >>= λ vs. Some (found (part n k l.0) 2 vs)

abbrev pub indexed : List ℕ → Found → Option Found
indexed n x = after_mark CloseBracket x.rest >>= λ ts. deeper x.depth >>= λ k. Some (found (index n x.tree) k ts)

abbrev pub selected : Reader → List ℕ → List TokenTree → Option (ℕ × List TokenTree) → Option Found
selected read n ts None = read 1 ts >>= indexed n
selected read n ts (Some k) = placed n k.0 k.1 (after_mark Colon k.1)

-- behind a name: a select, or nothing
abbrev pub named : Reader → List ℕ → List TokenTree → Option (List TokenTree) → Option Found
named read n ts None = Some (found (name n) 1 ts)
named read n ts (Some us) = selected read n us (first_number us)

-- parts of a concatenation, the depth of the deepest, and the tokens behind them
pub record Parts : Type 0 where
  pub trees : List ExprTree
  pub depth : ℕ
  pub rest : List TokenTree

abbrev pub parts_of : List ExprTree → ℕ → List TokenTree → Parts
parts_of trees depth rest = record { trees = trees; depth = depth; rest = rest }

abbrev pub by_comma : (Parts → Option Parts) → Parts → Option (List TokenTree) → Option Parts
by_comma go_on p (Some ts) = go_on (parts_of p.trees p.depth ts)
by_comma go_on p None = after_mark CloseBrace p.rest >>= λ ts. Some (parts_of p.trees p.depth ts)

abbrev pub with_part : Parts → Found → Parts
with_part p x = parts_of (p.trees ++ x.tree ∷ []) (max p.depth x.depth) x.rest

abbrev pub more_parts : (Parts → Option Parts) → Parts → Option Parts
more_parts go_on p = by_comma go_on p (after_mark Comma p.rest)

-- a part more, and what goes on behind it
abbrev pub part_then : Reader → (Parts → Option Parts) → Parts → Option Parts
part_then read go_on p = read 1 p.rest >>= λ x. more_parts go_on (with_part p x)

-- at most so many parts more
abbrev pub parts : Reader → ℕ → Parts → Option Parts
parts read zero p = None
parts read (suc k) p = part_then read (parts read k) p

-- the concatenation of trees; one of none is that of a name of no letters, and no text spells it
abbrev pub concat_behind : ExprTree → List ExprTree → ExprTree
concat_behind first [] = concat_one first
concat_behind first (x ∷ xs) = concat_more first (concat_behind x xs)

abbrev pub concat_of : List ExprTree → ExprTree
concat_of [] = concat_one (name [])
concat_of (x ∷ xs) = concat_behind x xs

abbrev pub braced : Parts → Option Found
braced p = deeper p.depth >>= λ k. Some (found (concat_of p.trees) k p.rest)

-- the parts behind a brace, up to the one that closes them
abbrev pub braces : Reader → List TokenTree → Option Found
braces read ts = parts read (length ts) (parts_of [] 0 ts) >>= braced

-- an operand with no prefix
abbrev pub operand_from : Reader → Start → List TokenTree → Option Found
operand_from read (StartName n) ts = named read n ts (after_mark OpenBracket ts)
operand_from read (StartConst size value fits) ts = Some (found (constant size value fits) 1 ts)
operand_from read StartOpen ts = read 1 ts >>= closed
operand_from read StartBrace ts = parts read (length ts) (parts_of [] 0 ts) >>= braced
operand_from read (StartPrefix op) ts = None
operand_from read NoStart ts = None

abbrev pub operand : Reader → List TokenTree → Option Found
operand read [] = None
operand read (t ∷ ts) = operand_from read (start_of t) ts

abbrev pub prefixed : UnOp → Found → Option Found
prefixed op x = deeper x.depth >>= λ k. Some (found (unary op x.tree) k x.rest)

-- an operand, or a prefix and an operand
abbrev pub unary_from : Reader → Start → List TokenTree → Option Found
unary_from read (StartPrefix op) ts = operand read ts >>= prefixed op
unary_from read start ts = operand_from read start ts

abbrev pub unary_at : Reader → List TokenTree → Option Found
unary_at read [] = None
unary_at read (t ∷ ts) = unary_from read (start_of t) ts

-- the operator in front, where it is at least so strong, and the tokens behind it
abbrev pub strong_infix : ℕ → List TokenTree → Option BinOp → Option (BinOp × List TokenTree)
strong_infix least ts None = None
strong_infix least ts (Some op) = if nat_le least (strength op) then Some (op, ts) else None

abbrev pub infix_at : ℕ → List TokenTree → Option (BinOp × List TokenTree)
infix_at least [] = None
infix_at least (t ∷ ts) = strong_infix least ts (infix_of t)

abbrev pub joined : BinOp → Found → Found → Option Found
joined op x y = deeper (max x.depth y.depth) >>= λ k. Some (found (binary op x.tree y.tree) k y.rest)

abbrev pub after_operator : Reader → (Found → Option Found) → Found → Option (BinOp × List TokenTree) → Option Found
after_operator read go_on x None = Some x
after_operator read go_on x (Some o) = read (strength o.0 + 1) o.1 >>= joined o.0 x >>= go_on

-- goes on behind what was read, for at most so many operators
abbrev pub operators : Reader → ℕ → ℕ → Found → Option Found
operators read zero least x = None
operators read (suc k) least x = after_operator read (operators read k least) x (infix_at least x.rest)

abbrev pub chosen_of : Found → Found → Found → Option Found
chosen_of x a b =
    deeper (max x.depth (max a.depth b.depth)) >>= λ k. Some (found (choice x.tree a.tree b.tree) k b.rest)

abbrev pub by_question : Reader → Found → Option (List TokenTree) → Option Found
by_question read x None = Some x
by_question read x (Some ts) = read 1 ts >>= λ a. after_mark Colon a.rest >>= λ us. read 1 us >>= chosen_of x a

-- a test goes on with its two arms, where the weakest operator may stand
abbrev pub chosen : Reader → ℕ → Found → Option Found
chosen read least x = if nat_le least 1 then by_question read x (after_mark Question x.rest) else Some x

-- an operand and what stronger operators join to it
abbrev pub joined_at : Reader → ℕ → List TokenTree → Option Found
joined_at read least ts = unary_at read ts >>= operators read 256 least

-- an expression whose parts nest at most so deep
abbrev pub expression : ℕ → Reader
expression zero least ts = None
expression (suc d) least ts = joined_at (expression d) least ts >>= chosen (expression d) least

-- an expression, at most 256 deep
unfoldable pub whole_expression : List TokenTree → Option Found
whole_expression ts = expression 256 1 ts
