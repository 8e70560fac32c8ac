-- Postfix code stands for the expression or the statement that it is the code of.
use Rattle.std.proofs.Common.{◌≡◌, ℕ, ◌+◌, ◌-◌, ◌/◌, ◌%◌, ◌^◌, List, [], ◌∷◌, ◌++◌, length, refl, sym, ap, subst, ◌∙◌, arith, take, drop, length-append, append_assoc}
use Rattle.std.proofs.lemmas.List.{same_from_push}
use Rattle.std.proofs.Math.Seq.{take-append_seam, drop-append_seam}
use Rattle.ae_vmodule.specs.Numbered as n
use Rattle.ae_vmodule.specs.Numbered.{NumberedExpr, NumberedStmt, Piece, expr, stmt}
use Rattle.ae_vmodule.specs.Postfix.{coded, coded_stmt, coded_piece, run, step, decoded, decoded_stmt, top_expr, top_stmt, IsCode, IsStmtCode, AreHalves, AreThirds, IsBehind, IsStmtBehind}
use Rattle.ae_vmodule.specs.declared.symbols.Symbol.{Symbol}
use Rattle.ae_vmodule.specs.declared.symbols.Symbol.TheVariants.{Name, Number, Const, Part, Index, Unary, Binary, Choose, One, More, Set, Put, When, Either, End, Then}

pub run_append : (xs ys : List Symbol) (below : List Piece) → run (xs ++ ys) below ≡ run ys (run xs below)
run_append [] ys below = refl
run_append (x ∷ xs) ys below = run_append xs ys (step x below)

-- a piece, and an operator behind it
after_one : (xs : List Symbol) (p : Piece) (s : Symbol) (below : List Piece) → run xs below ≡ p ∷ below → run (xs ++ s ∷ []) below ≡ step s (p ∷ below)
after_one xs p s below first = run_append xs (s ∷ []) below ∙ ap (step s) first

after_two : (xs ys : List Symbol) (p q : Piece) (s : Symbol) (below : List Piece) → run xs below ≡ p ∷ below → run ys (p ∷ below) ≡ q ∷ p ∷ below
    → run (xs ++ (ys ++ s ∷ [])) below ≡ step s (q ∷ p ∷ below)
after_two xs ys p q s below first second =
    run_append xs (ys ++ s ∷ []) below ∙ ap (run (ys ++ s ∷ [])) first ∙ after_one ys q s (p ∷ below) second

after_three : (xs ys zs : List Symbol) (p q r : Piece) (s : Symbol) (below : List Piece) → run xs below ≡ p ∷ below → run ys (p ∷ below) ≡ q ∷ p ∷ below
    → run zs (q ∷ p ∷ below) ≡ r ∷ q ∷ p ∷ below → run (xs ++ (ys ++ (zs ++ s ∷ []))) below ≡ step s (r ∷ q ∷ p ∷ below)
after_three xs ys zs p q r s below first second third =
    run_append xs (ys ++ (zs ++ s ∷ [])) below ∙ ap (run (ys ++ (zs ++ s ∷ []))) first ∙ after_two ys zs q r s (p ∷ below) second third

pub run_coded : (t : NumberedExpr) (below : List Piece) → run (coded t) below ≡ expr t ∷ below
run_coded (n.name k) below = refl
run_coded (n.constant size value fits) below = ap (λ v. expr (n.constant size v fits) ∷ below) (omega arith)
run_coded (n.place p) below = refl
run_coded (n.part k high low) below = refl
run_coded (n.index k at) below = after_one (coded at) (expr at) (Index k) below (run_coded at below)
run_coded (n.unary op a) below = after_one (coded a) (expr a) (Unary op) below (run_coded a below)
run_coded (n.binary op a b) below =
    after_two (coded a) (coded b) (expr a) (expr b) _ below (run_coded a below) (run_coded b (expr a ∷ below))
run_coded (n.choice test a b) below =
    after_three (coded test) (coded a) (coded b) (expr test) (expr a) (expr b) _ below (run_coded test below) (run_coded a (expr test ∷ below))
    (run_coded b (expr a ∷ expr test ∷ below))
run_coded (n.concat_one a) below = after_one (coded a) (expr a) One below (run_coded a below)
run_coded (n.concat_more a b) below =
    after_two (coded a) (coded b) (expr a) (expr b) _ below (run_coded a below) (run_coded b (expr a ∷ below))

pub run_coded_stmt : (s : NumberedStmt) (below : List Piece) → run (coded_stmt s) below ≡ stmt s ∷ below
run_coded_stmt (n.set k value) below = after_one (coded value) (expr value) (Set k) below (run_coded value below)
run_coded_stmt (n.put k at value) below =
    after_two (coded at) (coded value) (expr at) (expr value) _ below (run_coded at below) (run_coded value (expr at ∷ below))
run_coded_stmt (n.when test then) below =
    after_two (coded test) (coded_stmt then) (expr test) (stmt then) _ below (run_coded test below) (run_coded_stmt then (expr test ∷ below))
run_coded_stmt (n.either test then otherwise) below =
    after_three (coded test) (coded_stmt then) (coded_stmt otherwise) (expr test) (stmt then) (stmt otherwise) _ below (run_coded test below)
    (run_coded_stmt then (expr test ∷ below)) (run_coded_stmt otherwise (stmt then ∷ expr test ∷ below))
run_coded_stmt n.block_end below = refl
run_coded_stmt (n.block_more first rest) below =
    after_two (coded_stmt first) (coded_stmt rest) (stmt first) (stmt rest) _ below (run_coded_stmt first below) (run_coded_stmt rest (stmt first ∷ below))

pub run_piece : (p : Piece) (below : List Piece) → run (coded_piece p) below ≡ p ∷ below
run_piece (expr t) below = run_coded t below
run_piece (stmt s) below = run_coded_stmt s below

-- the code of an expression or a statement stands for it
pub decoded_coded : (t : NumberedExpr) → decoded (coded t) ≡ t
decoded_coded t = ap top_expr (run_coded t [])

pub decoded_coded_stmt : (s : NumberedStmt) → decoded_stmt (coded_stmt s) ≡ s
decoded_coded_stmt s = ap top_stmt (run_coded_stmt s [])

pub code_is : (ss : List Symbol) (t : NumberedExpr) → ss ≡ coded t → IsCode ss
code_is ss t e = subst IsCode (sym e) (ap coded (sym (decoded_coded t)))

pub stmt_code_is : (ss : List Symbol) (s : NumberedStmt) → ss ≡ coded_stmt s → IsStmtCode ss
stmt_code_is ss s e = subst IsStmtCode (sym e) (ap coded_stmt (sym (decoded_coded_stmt s)))

pub first_half : (ss : List Symbol) (size : ℕ) (a b : List Symbol) → AreHalves ss size a b → take (length ss - size) ss ≡ a
first_half ss size a b h =
    let long : length ss ≡ length a + length b = ap length h.0 ∙ length-append a b in
    let at : length ss - size ≡ length a = omega (arith, long, h.1) in
    ap (λ n. take n ss) at ∙ ap (take (length a)) h.0 ∙ take-append_seam a b

pub second_half : (ss : List Symbol) (size : ℕ) (a b : List Symbol) → AreHalves ss size a b → drop (length ss - size) ss ≡ b
second_half ss size a b h =
    let long : length ss ≡ length a + length b = ap length h.0 ∙ length-append a b in
    let at : length ss - size ≡ length a = omega (arith, long, h.1) in
    ap (λ n. drop n ss) at ∙ ap (drop (length a)) h.0 ∙ drop-append_seam a b

pub first_third : (ss : List Symbol) (size_a size_b : ℕ) (test a b : List Symbol) → AreThirds ss size_a size_b test a b
    → take (length ss - (size_a + size_b)) ss ≡ test
first_third ss size_a size_b test a b h =
    let tail = a ++ b in
    let long : length ss ≡ length test + length tail = ap length h.0 ∙ length-append test tail in
    let at : length ss - (size_a + size_b) ≡ length test = omega (arith, long, h.1, h.2, length-append a b) in
    ap (λ n. take n ss) at ∙ ap (take (length test)) h.0 ∙ take-append_seam test tail

-- what stands before the last symbol, and the last symbol
abbrev front : NumberedExpr → List Symbol
front (n.name k) = []
front (n.constant size value fits) = []
front (n.place p) = []
front (n.part k high low) = Number high ∷ Number low ∷ []
front (n.index k at) = coded at
front (n.unary op a) = coded a
front (n.binary op a b) = coded a ++ coded b
front (n.choice test a b) = coded test ++ (coded a ++ coded b)
front (n.concat_one a) = coded a
front (n.concat_more a rest) = coded a ++ coded rest

abbrev last : NumberedExpr → Symbol
last (n.name k) = Name k
last (n.constant size value fits) = Const size fits (value / 2 ^ 32) (value % 2 ^ 32)
last (n.place p) = Number p
last (n.part k high low) = Part k
last (n.index k at) = Index k
last (n.unary op a) = Unary op
last (n.binary op a b) = Binary op (length (coded b))
last (n.choice test a b) = Choose (length (coded a)) (length (coded b))
last (n.concat_one a) = One
last (n.concat_more a rest) = More (length (coded rest))

two_parts : (xs ys : List Symbol) (s : Symbol) → xs ++ (ys ++ s ∷ []) ≡ (xs ++ ys) ++ s ∷ []
two_parts xs ys s = sym (append_assoc xs ys _)

three_parts : (xs ys zs : List Symbol) (s : Symbol) → xs ++ (ys ++ (zs ++ s ∷ [])) ≡ (xs ++ (ys ++ zs)) ++ s ∷ []
three_parts xs ys zs s = ap (λ ts. xs ++ ts) (two_parts ys zs s) ∙ two_parts xs (ys ++ zs) s

parts : (t : NumberedExpr) → coded t ≡ front t ++ last t ∷ []
parts (n.name k) = refl
parts (n.constant size value fits) = refl
parts (n.place p) = refl
parts (n.part k high low) = refl
parts (n.index k at) = refl
parts (n.unary op a) = refl
parts (n.binary op a b) = two_parts (coded a) (coded b) _
parts (n.choice test a b) = three_parts (coded test) (coded a) (coded b) _
parts (n.concat_one a) = refl
parts (n.concat_more a rest) = two_parts (coded a) (coded rest) _

is_behind : (t : NumberedExpr) → IsBehind (last t) (front t) t
is_behind (n.name k) = refl
is_behind (n.constant size value fits) = ap (λ v. n.constant size v fits) (omega arith)
is_behind (n.place p) = refl
is_behind (n.part k high low) = (high, low, refl, refl)
is_behind (n.index k at) = (at, refl, refl)
is_behind (n.unary op a) = (a, refl, refl)
is_behind (n.binary op a b) = (a, b, (refl, refl), refl)
is_behind (n.choice test a b) = (test, a, b, (refl, refl, refl), refl)
is_behind (n.concat_one a) = (a, refl, refl)
is_behind (n.concat_more a rest) = (a, rest, (refl, refl), refl)

pub behind : (t : NumberedExpr) (ss : List Symbol) (s : Symbol) → coded t ≡ ss ++ s ∷ [] → IsBehind s ss t
behind t ss s e =
    let same = same_from_push (front t) ss (last t) s (sym (parts t) ∙ e) in
    subst (λ x. IsBehind x ss t) same.1 (subst (λ xs. IsBehind (last t) xs t) same.0 (is_behind t))

abbrev stmt_front : NumberedStmt → List Symbol
stmt_front (n.set k value) = coded value
stmt_front (n.put k at value) = coded at ++ coded value
stmt_front (n.when test then) = coded test ++ coded_stmt then
stmt_front (n.either test then otherwise) = coded test ++ (coded_stmt then ++ coded_stmt otherwise)
stmt_front n.block_end = []
stmt_front (n.block_more first rest) = coded_stmt first ++ coded_stmt rest

abbrev stmt_last : NumberedStmt → Symbol
stmt_last (n.set k value) = Set k
stmt_last (n.put k at value) = Put k (length (coded value))
stmt_last (n.when test then) = When (length (coded_stmt then))
stmt_last (n.either test then otherwise) = Either (length (coded_stmt then)) (length (coded_stmt otherwise))
stmt_last n.block_end = End
stmt_last (n.block_more first rest) = Then (length (coded_stmt rest))

stmt_parts : (t : NumberedStmt) → coded_stmt t ≡ stmt_front t ++ stmt_last t ∷ []
stmt_parts (n.set k value) = refl
stmt_parts (n.put k at value) = two_parts (coded at) (coded value) _
stmt_parts (n.when test then) = two_parts (coded test) (coded_stmt then) _
stmt_parts (n.either test then otherwise) = three_parts (coded test) (coded_stmt then) (coded_stmt otherwise) _
stmt_parts n.block_end = refl
stmt_parts (n.block_more first rest) = two_parts (coded_stmt first) (coded_stmt rest) _

is_stmt_behind : (t : NumberedStmt) → IsStmtBehind (stmt_last t) (stmt_front t) t
is_stmt_behind (n.set k value) = (value, refl, refl)
is_stmt_behind (n.put k at value) = (at, value, (refl, refl), refl)
is_stmt_behind (n.when test then) = (test, then, (refl, refl), refl)
is_stmt_behind (n.either test then otherwise) = (test, then, otherwise, (refl, refl, refl), refl)
is_stmt_behind n.block_end = refl
is_stmt_behind (n.block_more first rest) = (first, rest, (refl, refl), refl)

pub stmt_behind : (t : NumberedStmt) (ss : List Symbol) (s : Symbol) → coded_stmt t ≡ ss ++ s ∷ [] → IsStmtBehind s ss t
stmt_behind t ss s e =
    let same = same_from_push (stmt_front t) ss (stmt_last t) s (sym (stmt_parts t) ∙ e) in
    subst (λ x. IsStmtBehind x ss t) same.1 (subst (λ xs. IsStmtBehind (stmt_last t) xs t) same.0 (is_stmt_behind t))
