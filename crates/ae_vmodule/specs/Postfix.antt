-- Postfix code: the symbols of an expression or a statement, and what symbols stand for.
use Rattle.std.specs.Prelude.{◌≡◌, ℕ, ◌+◌, ◌*◌, ◌/◌, ◌%◌, ◌^◌, List, [], ◌∷◌, ◌++◌, length, Option, Some, None}
use Rattle.ae_vmodule.specs.Numbered as n
use Rattle.ae_vmodule.specs.Numbered.{NumberedExpr, NumberedStmt, Piece, expr, stmt}
use Rattle.ae_vmodule.specs.declared.symbols.Symbol.{Symbol}
use Rattle.ae_vmodule.specs.declared.symbols.Symbol.TheVariants.{Name, Number, Const, Part, Index, Unary, Binary, Choose, One, More, Set, Put, When, Either, End, Then}

-- the symbols of an expression, each behind those of its operands
abbrev pub coded : NumberedExpr → List Symbol
coded (n.name k) = Name k ∷ []
coded (n.constant size value fits) = Const size fits (value / 2 ^ 32) (value % 2 ^ 32) ∷ []
coded (n.place p) = Number p ∷ []
coded (n.part k high low) = Number high ∷ Number low ∷ Part k ∷ []
coded (n.index k at) = coded at ++ Index k ∷ []
coded (n.unary op a) = coded a ++ Unary op ∷ []
coded (n.binary op a b) = coded a ++ (coded b ++ Binary op (length (coded b)) ∷ [])
coded (n.choice test a b) =
    coded test ++ (coded a ++ (coded b ++ Choose (length (coded a)) (length (coded b)) ∷ []))
coded (n.concat_one a) = coded a ++ One ∷ []
coded (n.concat_more a rest) = coded a ++ (coded rest ++ More (length (coded rest)) ∷ [])

-- and those of a statement
abbrev pub coded_stmt : NumberedStmt → List Symbol
coded_stmt (n.set k value) = coded value ++ Set k ∷ []
coded_stmt (n.put k at value) = coded at ++ (coded value ++ Put k (length (coded value)) ∷ [])
coded_stmt (n.when test then) = coded test ++ (coded_stmt then ++ When (length (coded_stmt then)) ∷ [])
coded_stmt (n.either test then otherwise) =
    coded test ++ (coded_stmt then
    ++ (coded_stmt otherwise ++ Either (length (coded_stmt then)) (length (coded_stmt otherwise)) ∷ []))
coded_stmt n.block_end = End ∷ []
coded_stmt (n.block_more first rest) =
    coded_stmt first ++ (coded_stmt rest ++ Then (length (coded_stmt rest)) ∷ [])

abbrev pub coded_piece : Piece → List Symbol
coded_piece (expr t) = coded t
coded_piece (stmt s) = coded_stmt s

-- the name that a symbol reads
abbrev pub name_read : Symbol → Option ℕ
name_read (Name k) = Some k
name_read (Number p) = None
name_read (Const size fits high low) = None
name_read (Part k) = Some k
name_read (Index k) = Some k
name_read (Unary op) = None
name_read (Binary op size) = None
name_read (Choose size_a size_b) = None
name_read One = None
name_read (More size) = None
name_read (Set k) = None
name_read (Put k size) = None
name_read (When size) = None
name_read (Either size_a size_b) = None
name_read End = None
name_read (Then size) = None

-- the number that is a bound of a part
abbrev pub number : NumberedExpr → ℕ
number (n.place p) = p
number _ = 0

-- what an operator makes of pieces; where they are none that it takes, the first of them
abbrev pub of_expr : (NumberedExpr → Piece) → Piece → Piece
of_expr f (expr a) = f a
of_expr f (stmt s) = stmt s

abbrev pub of_exprs : (NumberedExpr → NumberedExpr → Piece) → Piece → Piece → Piece
of_exprs f (expr a) (expr b) = f a b
of_exprs f (expr a) (stmt s) = expr a
of_exprs f (stmt s) p = stmt s

abbrev pub of_choice : Piece → Piece → Piece → Piece
of_choice (expr test) (expr a) (expr b) = expr (n.choice test a b)
of_choice p q r = p

abbrev pub of_when : Piece → Piece → Piece
of_when (expr test) (stmt then) = stmt (n.when test then)
of_when p q = p

abbrev pub of_either : Piece → Piece → Piece → Piece
of_either (expr test) (stmt then) (stmt otherwise) = stmt (n.either test then otherwise)
of_either p q r = p

abbrev pub of_block : Piece → Piece → Piece
of_block (stmt first) (stmt rest) = stmt (n.block_more first rest)
of_block p q = p

-- an operator on the last pieces, the last first
abbrev pub on_one : (Piece → Piece) → List Piece → List Piece
on_one f [] = []
on_one f (a ∷ below) = f a ∷ below

abbrev pub on_two : (Piece → Piece → Piece) → List Piece → List Piece
on_two f [] = []
on_two f (b ∷ []) = b ∷ []
on_two f (b ∷ a ∷ below) = f a b ∷ below

abbrev pub on_three : (Piece → Piece → Piece → Piece) → List Piece → List Piece
on_three f [] = []
on_three f (c ∷ []) = c ∷ []
on_three f (c ∷ b ∷ []) = c ∷ b ∷ []
on_three f (c ∷ b ∷ a ∷ below) = f a b c ∷ below

-- one symbol more, behind which these pieces stand
abbrev pub step : Symbol → List Piece → List Piece
step (Name k) below = expr (n.name k) ∷ below
step (Number p) below = expr (n.place p) ∷ below
step (Const size fits high low) below = expr (n.constant size (high * 2 ^ 32 + low) fits) ∷ below
step (Part k) below = on_two (of_exprs (λ h l. expr (n.part k (number h) (number l)))) below
step (Index k) below = on_one (of_expr (λ a. expr (n.index k a))) below
step (Unary op) below = on_one (of_expr (λ a. expr (n.unary op a))) below
step (Binary op size) below = on_two (of_exprs (λ a b. expr (n.binary op a b))) below
step (Choose size_a size_b) below = on_three of_choice below
step One below = on_one (of_expr (λ a. expr (n.concat_one a))) below
step (More size) below = on_two (of_exprs (λ a b. expr (n.concat_more a b))) below
step (Set k) below = on_one (of_expr (λ a. stmt (n.set k a))) below
step (Put k size) below = on_two (of_exprs (λ a b. stmt (n.put k a b))) below
step (When size) below = on_two of_when below
step (Either size_a size_b) below = on_three of_either below
step End below = stmt n.block_end ∷ below
step (Then size) below = on_two of_block below

-- the pieces that stand there behind the symbols, the last first
abbrev pub run : List Symbol → List Piece → List Piece
run [] below = below
run (s ∷ ss) below = run ss (step s below)

abbrev pub top_expr : List Piece → NumberedExpr
top_expr (expr t ∷ below) = t
top_expr _ = n.place 0

abbrev pub top_stmt : List Piece → NumberedStmt
top_stmt (stmt s ∷ below) = s
top_stmt _ = n.block_end

-- the expression, and the statement, that symbols stand for
abbrev pub decoded : List Symbol → NumberedExpr
decoded ss = top_expr (run ss [])

abbrev pub decoded_stmt : List Symbol → NumberedStmt
decoded_stmt ss = top_stmt (run ss [])

-- these are the symbols of an expression, or of a statement
abbrev pub IsCode : List Symbol → Type 0
IsCode ss = ss ≡ coded (decoded ss)

abbrev pub IsStmtCode : List Symbol → Type 0
IsStmtCode ss = ss ≡ coded_stmt (decoded_stmt ss)

-- symbols in two parts, of which the second has so many
abbrev pub AreHalves : List Symbol → ℕ → List Symbol → List Symbol → Type 0
AreHalves ss size a b = (ss ≡ a ++ b) × (size ≡ length b)

-- symbols in three parts, of which the last two have so many
abbrev pub AreThirds : List Symbol → ℕ → ℕ → List Symbol → List Symbol → List Symbol → Type 0
AreThirds ss size_a size_b test a b = (ss ≡ test ++ (a ++ b)) × (size_a ≡ length a) × (size_b ≡ length b)

-- the expression whose last symbol is this one, behind those
abbrev pub IsBehind : Symbol → List Symbol → NumberedExpr → Type 0
IsBehind (Name k) ss t = t ≡ n.name k
IsBehind (Number p) ss t = t ≡ n.place p
IsBehind (Const size fits high low) ss t = t ≡ n.constant size (high * 2 ^ 32 + low) fits
IsBehind (Part k) ss t =
    (high : ℕ) × (low : ℕ) × (ss ≡ Number high ∷ Number low ∷ []) × (t ≡ n.part k high low)
IsBehind (Index k) ss t = (a : NumberedExpr) × (ss ≡ coded a) × (t ≡ n.index k a)
IsBehind (Unary op) ss t = (a : NumberedExpr) × (ss ≡ coded a) × (t ≡ n.unary op a)
IsBehind (Binary op size) ss t =
    (a : NumberedExpr) × (b : NumberedExpr) × AreHalves ss size (coded a) (coded b) × (t ≡ n.binary op a b)
IsBehind (Choose size_a size_b) ss t =
    (test : NumberedExpr) × (a : NumberedExpr) × (b : NumberedExpr)
    × AreThirds ss size_a size_b (coded test) (coded a) (coded b) × (t ≡ n.choice test a b)
IsBehind One ss t = (a : NumberedExpr) × (ss ≡ coded a) × (t ≡ n.concat_one a)
IsBehind (More size) ss t =
    (a : NumberedExpr) × (rest : NumberedExpr) × AreHalves ss size (coded a) (coded rest) × (t ≡ n.concat_more a rest)
IsBehind (Set k) ss t = ⊥
IsBehind (Put k size) ss t = ⊥
IsBehind (When size) ss t = ⊥
IsBehind (Either size_a size_b) ss t = ⊥
IsBehind End ss t = ⊥
IsBehind (Then size) ss t = ⊥

-- and the statement
abbrev pub IsStmtBehind : Symbol → List Symbol → NumberedStmt → Type 0
IsStmtBehind (Set k) ss s = (value : NumberedExpr) × (ss ≡ coded value) × (s ≡ n.set k value)
IsStmtBehind (Put k size) ss s =
    (at : NumberedExpr) × (value : NumberedExpr) × AreHalves ss size (coded at) (coded value) × (s ≡ n.put k at value)
IsStmtBehind (When size) ss s =
    (test : NumberedExpr) × (then : NumberedStmt) × AreHalves ss size (coded test) (coded_stmt then)
    × (s ≡ n.when test then)
IsStmtBehind (Either size_a size_b) ss s =
    (test : NumberedExpr) × (then : NumberedStmt) × (otherwise : NumberedStmt)
    × AreThirds ss size_a size_b (coded test) (coded_stmt then) (coded_stmt otherwise)
    × (s ≡ n.either test then otherwise)
IsStmtBehind End ss s = s ≡ n.block_end
IsStmtBehind (Then size) ss s =
    (first : NumberedStmt) × (rest : NumberedStmt) × AreHalves ss size (coded_stmt first) (coded_stmt rest)
    × (s ≡ n.block_more first rest)
IsStmtBehind (Name k) ss s = ⊥
IsStmtBehind (Number p) ss s = ⊥
IsStmtBehind (Const size fits high low) ss s = ⊥
IsStmtBehind (Part k) ss s = ⊥
IsStmtBehind (Index k) ss s = ⊥
IsStmtBehind (Unary op) ss s = ⊥
IsStmtBehind (Binary op size) ss s = ⊥
IsStmtBehind (Choose size_a size_b) ss s = ⊥
IsStmtBehind One ss s = ⊥
IsStmtBehind (More size) ss s = ⊥

abbrev pub HasCode : List Symbol → Type 0
HasCode ss = (a : NumberedExpr) × (ss ≡ coded a)

abbrev pub HasStmtCode : List Symbol → Type 0
HasStmtCode ss = (s : NumberedStmt) × (ss ≡ coded_stmt s)

abbrev pub HasRoot : Symbol → List Symbol → Type 0
HasRoot s ss = (t : NumberedExpr) × IsBehind s ss t

abbrev pub HasStmtRoot : Symbol → List Symbol → Type 0
HasStmtRoot s ss = (t : NumberedStmt) × IsStmtBehind s ss t

abbrev pub HasHalves : List Symbol → ℕ → Type 0
HasHalves ss size = (a : List Symbol) × (b : List Symbol) × AreHalves ss size a b

abbrev pub HasThirds : List Symbol → ℕ → ℕ → Type 0
HasThirds ss size_a size_b =
    (test : List Symbol) × (a : List Symbol) × (b : List Symbol) × AreThirds ss size_a size_b test a b
