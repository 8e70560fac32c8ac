-- How an expression is written, and the tree that its tokens stand for (IEEE 1364-2001, narrowed to the profile).
-- A form is the tree with every free choice of the text, as parentheses.
use Rattle.std.specs.Prelude.{◌≡◌, ℕ, ◌+◌, ◌<◌, ◌≤◌, List, [], ◌∷◌, ◌++◌, Bool, max}
use Rattle.ae_vtoken.specs.Tokens.{TokenTree, Name, Zero, Decimal, Sized, Mark}
use Rattle.ae_vmodule.specs.ModuleTree.{ExprTree, name, constant, place, part, index, unary, binary, choice, concat_one, concat_more}
use Rattle.ae_vtoken.specs.declared.token.Sign.{Sign}
use Rattle.ae_vtoken.specs.declared.token.Sign.TheVariants.{Open, Close, OpenBracket, CloseBracket, OpenBrace, CloseBrace, Comma, Colon, Question, Plus, Minus, Star, Amp, Bar, Caret, Tilde, Bang, Less, Greater, AtMost, AtLeast, Same, Differs, BothAmp, BothBar, ShiftLeft, ShiftRight}
use Rattle.ae_vmodule.specs.declared.module.UnOp.{UnOp}
use Rattle.ae_vmodule.specs.declared.module.UnOp.TheVariants.{Not, Flip}
use Rattle.ae_vmodule.specs.declared.module.BinOp.{BinOp}
use Rattle.ae_vmodule.specs.declared.module.BinOp.TheVariants.{Mul, Add, Sub, Shl, Shr, Lt, Le, Gt, Ge, Eq, Ne, And, Xor, Or, Both, Either}

-- a decimal number: the text `0`, or another
pub data NumberForm : Type 0 where
  ZeroForm : NumberForm
  DecimalForm : (n : ℕ) → NumberForm

abbrev pub number_token : NumberForm → TokenTree
number_token ZeroForm = Zero
number_token (DecimalForm n) = Decimal n

abbrev pub number_value : NumberForm → ℕ
number_value ZeroForm = 0
number_value (DecimalForm n) = n

pub data ExprForm : Type 0 where
  NameForm : (n : List ℕ) → ExprForm
  ConstForm : (size value : ℕ) (fits : Bool) → ExprForm
  -- `n[high:low]`
  PartForm : (n : List ℕ) (high low : NumberForm) → ExprForm
  -- `n[k]`
  PlaceForm : (n : List ℕ) (k : NumberForm) → ExprForm
  -- `n[at]`
  IndexForm : (n : List ℕ) (at : ExprForm) → ExprForm
  -- `(a)`
  ParensForm : (a : ExprForm) → ExprForm
  PrefixForm : (op : UnOp) (a : ExprForm) → ExprForm
  InfixForm : (op : BinOp) (a b : ExprForm) → ExprForm
  -- `test ? a : b`
  ChoiceForm : (test a b : ExprForm) → ExprForm
  -- `{parts}`
  BracesForm : (parts : ExprForm) → ExprForm
  -- inside braces alone: the last part, or a part and further ones
  LastPart : (a : ExprForm) → ExprForm
  MoreParts : (a parts : ExprForm) → ExprForm

abbrev pub prefix_sign : UnOp → Sign
prefix_sign Not = Bang
prefix_sign Flip = Tilde

abbrev pub infix_sign : BinOp → Sign
infix_sign Mul = Star
infix_sign Add = Plus
infix_sign Sub = Minus
infix_sign Shl = ShiftLeft
infix_sign Shr = ShiftRight
infix_sign Lt = Less
infix_sign Le = AtMost
infix_sign Gt = Greater
infix_sign Ge = AtLeast
infix_sign Eq = Same
infix_sign Ne = Differs
infix_sign And = Amp
infix_sign Xor = Caret
infix_sign Or = Bar
infix_sign Both = BothAmp
infix_sign Either = BothBar

-- how strongly a binary operator binds
abbrev pub strength : BinOp → ℕ
strength Mul = 11
strength Add = 10
strength Sub = 10
strength Shl = 9
strength Shr = 9
strength Lt = 8
strength Le = 8
strength Gt = 8
strength Ge = 8
strength Eq = 7
strength Ne = 7
strength And = 6
strength Xor = 5
strength Or = 4
strength Both = 3
strength Either = 2

-- the strength of the outermost operator: 13 of an operand, 12 of a prefix, 1 of `? :`, and 0 of what is no expression
abbrev pub level : ExprForm → ℕ
level (NameForm n) = 13
level (ConstForm size value fits) = 13
level (PartForm n high low) = 13
level (PlaceForm n k) = 13
level (IndexForm n at) = 13
level (ParensForm a) = 13
level (PrefixForm op a) = 12
level (InfixForm op a b) = strength op
level (ChoiceForm test a b) = 1
level (BracesForm parts) = 13
level (LastPart a) = 0
level (MoreParts a parts) = 0

-- a prefix stands before an operand, binary operators group from the left, and `? :` from the right
abbrev pub IsFormedExpr : ExprForm → Type 0
IsFormedExpr (NameForm n) = Unit {0}
IsFormedExpr (ConstForm size value fits) = Unit {0}
IsFormedExpr (PartForm n high low) = Unit {0}
IsFormedExpr (PlaceForm n k) = Unit {0}
IsFormedExpr (IndexForm n at) = (1 ≤ level at) × IsFormedExpr at
IsFormedExpr (ParensForm a) = (1 ≤ level a) × IsFormedExpr a
IsFormedExpr (PrefixForm op a) = (level a ≡ 13) × IsFormedExpr a
IsFormedExpr (InfixForm op a b) = (strength op ≤ level a) × (strength op < level b) × IsFormedExpr a × IsFormedExpr b
IsFormedExpr (ChoiceForm test a b) =
    (2 ≤ level test) × (1 ≤ level a) × (1 ≤ level b) × IsFormedExpr test × IsFormedExpr a × IsFormedExpr b
IsFormedExpr (BracesForm parts) = (level parts ≡ 0) × IsFormedExpr parts
IsFormedExpr (LastPart a) = (1 ≤ level a) × IsFormedExpr a
IsFormedExpr (MoreParts a parts) = (1 ≤ level a) × (level parts ≡ 0) × IsFormedExpr a × IsFormedExpr parts

abbrev pub expr_tokens : ExprForm → List TokenTree
expr_tokens (NameForm n) = Name n ∷ []
expr_tokens (ConstForm size value fits) = Sized size value fits ∷ []
expr_tokens (PartForm n high low) =
    Name n ∷ Mark OpenBracket ∷ number_token high ∷ Mark Colon ∷ number_token low ∷ Mark CloseBracket ∷ []
expr_tokens (PlaceForm n k) = Name n ∷ Mark OpenBracket ∷ number_token k ∷ Mark CloseBracket ∷ []
expr_tokens (IndexForm n at) = Name n ∷ Mark OpenBracket ∷ (expr_tokens at ++ Mark CloseBracket ∷ [])
expr_tokens (ParensForm a) = Mark Open ∷ (expr_tokens a ++ Mark Close ∷ [])
expr_tokens (PrefixForm op a) = Mark (prefix_sign op) ∷ expr_tokens a
expr_tokens (InfixForm op a b) = expr_tokens a ++ Mark (infix_sign op) ∷ expr_tokens b
expr_tokens (ChoiceForm test a b) =
    expr_tokens test ++ Mark Question ∷ (expr_tokens a ++ Mark Colon ∷ expr_tokens b)
expr_tokens (BracesForm parts) = Mark OpenBrace ∷ (expr_tokens parts ++ Mark CloseBrace ∷ [])
expr_tokens (LastPart a) = expr_tokens a
expr_tokens (MoreParts a parts) = expr_tokens a ++ Mark Comma ∷ expr_tokens parts

-- parentheses leave no trace
abbrev pub expr_of : ExprForm → ExprTree
expr_of (NameForm n) = name n
expr_of (ConstForm size value fits) = constant size value fits
expr_of (PartForm n high low) = part n (number_value high) (number_value low)
expr_of (PlaceForm n k) = index n (place (number_value k))
expr_of (IndexForm n at) = index n (expr_of at)
expr_of (ParensForm a) = expr_of a
expr_of (PrefixForm op a) = unary op (expr_of a)
expr_of (InfixForm op a b) = binary op (expr_of a) (expr_of b)
expr_of (ChoiceForm test a b) = choice (expr_of test) (expr_of a) (expr_of b)
expr_of (BracesForm parts) = expr_of parts
expr_of (LastPart a) = concat_one (expr_of a)
expr_of (MoreParts a parts) = concat_more (expr_of a) (expr_of parts)

-- one more than the deepest part; names, numbers and constants have depth 1, and parentheses are a part
abbrev pub expr_depth : ExprForm → ℕ
expr_depth (NameForm n) = 1
expr_depth (ConstForm size value fits) = 1
expr_depth (PartForm n high low) = 2
expr_depth (PlaceForm n k) = 2
expr_depth (IndexForm n at) = expr_depth at + 1
expr_depth (ParensForm a) = expr_depth a + 1
expr_depth (PrefixForm op a) = expr_depth a + 1
expr_depth (InfixForm op a b) = max (expr_depth a) (expr_depth b) + 1
expr_depth (ChoiceForm test a b) = max (expr_depth test) (max (expr_depth a) (expr_depth b)) + 1
expr_depth (BracesForm parts) = expr_depth parts + 1
expr_depth (LastPart a) = expr_depth a
expr_depth (MoreParts a parts) = max (expr_depth a) (expr_depth parts)
