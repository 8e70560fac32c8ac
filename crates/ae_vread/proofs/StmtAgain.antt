-- What is written as a statement is read again.
use Rattle.std.proofs.Common.{◌≡◌, ℕ, zero, suc, ◌+◌, ◌<◌, ◌≤◌, List, [], ◌∷◌, ◌++◌, length, length-append, true, false, Some, None, refl, sym, ap, ◌∙◌, arith, append_assoc, append-nil, max}
use Rattle.std.proofs.lemmas.Bool.{both_ways}
use Rattle.ae_vtoken.specs.Tokens.{TokenTree, Word, Mark}
use Rattle.ae_vtoken.specs.declared.token.Key.TheVariants.{Else, End}
use Rattle.ae_vtoken.specs.declared.token.Sign.{Sign}
use Rattle.ae_vtoken.specs.declared.token.Sign.TheVariants.{Close, CloseBracket, Semicolon, AtMost}
use Rattle.ae_vmodule.specs.ModuleTree.{StmtTree, set, put, when, either, block_more, place}
use Rattle.ae_vread.specs.ExprForms.{NumberForm, ZeroForm, DecimalForm, number_value, ExprForm, level, IsFormedExpr, expr_tokens, expr_of, expr_depth}
use Rattle.ae_vread.specs.StmtForms.{StmtForm, SetForm, PutPlaceForm, PutForm, IfForm, IfElseForm, BlockForm, NoMore, More, is_statement, is_open, IsStatement, test_tokens, stmt_tokens, stmt_of, stmt_depth}
use Rattle.ae_vread.specs.TokenTests.{◌>>=◌, after_mark, after_word, first_number}
use Rattle.ae_vread.specs.Reading.{found}
use Rattle.ae_vread.specs.StmtReading.{StmtFound, stmt_found, body_of, StmtReader, value_then, assigned, set_from, put_place, put_from, put_by, either_of, with_else, choice_from, block_of, with_statement, by_end, body, blocked, statement_at, statement, whole_statement}
use Rattle.ae_vread.proofs.TokenFronts.{word_was}
use Rattle.ae_vread.proofs.ExprAgain.{found_form, Ends, no_number, deepened, whole_again}

abbrev pub stmt_form : StmtForm → List TokenTree → StmtFound
stmt_form f rest = stmt_found (stmt_of f) (stmt_depth f) rest

-- a statement that an `else` could follow isn't followed by one
abbrev pub IsFree : StmtForm → List TokenTree → Type 0
IsFree f rest = is_open f ≡ true → after_word Else rest ≡ None

-- an expression before a sign that ends it is read, with the sign
pub value_again : (f : ExprForm) (s : Sign) (rest : List TokenTree) → IsFormedExpr f → 1 ≤ level f → expr_depth f ≤ 256
    → after_mark s (Mark s ∷ rest) ≡ Some rest → Ends 1 (Mark s ∷ rest) → value_then s (expr_tokens f ++ Mark s ∷ rest) ≡ Some (found_form f rest)
value_again f s rest formed some small here ends =
    ap (λ o. o >>= λ x. after_mark s x.rest >>= λ us. Some (found x.tree x.depth us)) (whole_again f (Mark s ∷ rest) formed some small ends)
    ∙ ap (λ o. o >>= λ us. Some (found (expr_of f) (expr_depth f) us)) here

pub semicolon_ends : (rest : List TokenTree) → Ends 1 (Mark Semicolon ∷ rest)
semicolon_ends rest = record { operator = refl; bracket = refl; question = λ _. refl }

-- a test in its parentheses
test_again : (f : ExprForm) (read : StmtReader) (ts : List TokenTree) → IsFormedExpr f → 1 ≤ level f → expr_depth f ≤ 256
    → statement_at read (test_tokens f ++ ts) ≡ choice_from read (found_form f ts)
test_again f read ts formed some small =
    ap (λ us. value_then Close us >>= choice_from read) (append_assoc (expr_tokens f) (Mark Close ∷ []) ts)
    ∙ ap (λ o. o >>= choice_from read) (value_again f Close ts formed some small refl (record { operator = refl; bracket = refl; question = λ _. refl }))

-- the value of an assignment
assigned_again : (f : ExprForm) (rest : List TokenTree) → IsFormedExpr f → 1 ≤ level f → expr_depth f ≤ 256
    → assigned (Mark AtMost ∷ (expr_tokens f ++ Mark Semicolon ∷ rest)) ≡ Some (found_form f rest)
assigned_again f rest formed some small = value_again f Semicolon rest formed some small refl (semicolon_ends rest)

-- a statement begins with no `end` and with no `else`
no_end : (f : StmtForm) (ts : List TokenTree) → is_statement f ≡ true → after_word End (stmt_tokens f ++ ts) ≡ None
no_end (SetForm n value) ts is = refl
no_end (PutPlaceForm n k value) ts is = refl
no_end (PutForm n at value) ts is = refl
no_end (IfForm test a) ts is = refl
no_end (IfElseForm test a b) ts is = refl
no_end (BlockForm b) ts is = refl
no_end NoMore ts is = absurd (let e : false ≡ true = is in cc)
no_end (More first b) ts is = absurd (let e : false ≡ true = is in cc)

pub no_else : (f : StmtForm) (ts : List TokenTree) → is_statement f ≡ true → after_word Else (stmt_tokens f ++ ts) ≡ None
no_else (SetForm n value) ts is = refl
no_else (PutPlaceForm n k value) ts is = refl
no_else (PutForm n at value) ts is = refl
no_else (IfForm test a) ts is = refl
no_else (IfElseForm test a b) ts is = refl
no_else (BlockForm b) ts is = refl
no_else NoMore ts is = absurd (let e : false ≡ true = is in cc)
no_else (More first b) ts is = absurd (let e : false ≡ true = is in cc)

-- inside a block no `else` stands in front
no_else_in : (f : StmtForm) (ts : List TokenTree) → IsStatement f → is_statement f ≡ false → after_word Else (stmt_tokens f ++ Word End ∷ ts) ≡ None
no_else_in NoMore ts formed is = refl
no_else_in (More first b) ts formed is = ap (after_word Else) (append_assoc (stmt_tokens first) (stmt_tokens b) (Word End ∷ ts)) ∙ no_else first _ formed.0
no_else_in (SetForm n value) ts formed is = absurd (let e : true ≡ false = is in cc)
no_else_in (PutPlaceForm n k value) ts formed is = absurd (let e : true ≡ false = is in cc)
no_else_in (PutForm n at value) ts formed is = absurd (let e : true ≡ false = is in cc)
no_else_in (IfForm test a) ts formed is = absurd (let e : true ≡ false = is in cc)
no_else_in (IfElseForm test a b) ts formed is = absurd (let e : true ≡ false = is in cc)
no_else_in (BlockForm b) ts formed is = absurd (let e : true ≡ false = is in cc)

-- the statements of a block

abbrev pub stmts_of : StmtForm → List StmtTree
stmts_of (More first b) = stmt_of first ∷ stmts_of b
stmts_of _ = []

abbrev pub stmt_count : StmtForm → ℕ
stmt_count (More first b) = stmt_count b + 1
stmt_count _ = 0

pub block_stmts : (f : StmtForm) → IsStatement f → is_statement f ≡ false → block_of (stmts_of f) ≡ stmt_of f
block_stmts NoMore formed is = refl
block_stmts (More first b) formed is = ap (block_more (stmt_of first)) (block_stmts b formed.3 formed.1)
block_stmts (SetForm n value) formed is = absurd (let e : true ≡ false = is in cc)
block_stmts (PutPlaceForm n k value) formed is = absurd (let e : true ≡ false = is in cc)
block_stmts (PutForm n at value) formed is = absurd (let e : true ≡ false = is in cc)
block_stmts (IfForm test a) formed is = absurd (let e : true ≡ false = is in cc)
block_stmts (IfElseForm test a b) formed is = absurd (let e : true ≡ false = is in cc)
block_stmts (BlockForm b) formed is = absurd (let e : true ≡ false = is in cc)

some_tokens : (f : StmtForm) → is_statement f ≡ true → 1 ≤ length (stmt_tokens f)
some_tokens (SetForm n value) is = omega arith
some_tokens (PutPlaceForm n k value) is = omega arith
some_tokens (PutForm n at value) is = omega arith
some_tokens (IfForm test a) is = omega arith
some_tokens (IfElseForm test a b) is = omega arith
some_tokens (BlockForm b) is = omega arith
some_tokens NoMore is = absurd (let e : false ≡ true = is in cc)
some_tokens (More first b) is = absurd (let e : false ≡ true = is in cc)

count_below : (f : StmtForm) → IsStatement f → stmt_count f ≤ length (stmt_tokens f)
count_below (More first b) formed = omega (arith, some_tokens first formed.0, count_below b formed.3, length-append (stmt_tokens first) (stmt_tokens b))
count_below NoMore formed = omega arith
count_below (SetForm n value) formed = omega arith
count_below (PutPlaceForm n k value) formed = omega arith
count_below (PutForm n at value) formed = omega arith
count_below (IfForm test a) formed = omega arith
count_below (IfElseForm test a b) formed = omega arith
count_below (BlockForm b) formed = omega arith

abbrev pub IsStmtRead : StmtForm → Type 0
IsStmtRead f =
    (d : ℕ) (rest : List TokenTree) → IsStatement f → is_statement f ≡ true → stmt_depth f ≤ d → stmt_depth f ≤ 256 → IsFree f rest
    → statement d (stmt_tokens f ++ rest) ≡ Some (stmt_form f rest)

abbrev pub IsBodyRead : StmtForm → Type 0
IsBodyRead f =
    (d k : ℕ) (before : List StmtTree) (deep : ℕ) (rest : List TokenTree) → IsStatement f → is_statement f ≡ false → stmt_depth f ≤ d → stmt_depth f ≤ 256
    → stmt_count f < k → body (statement d) k (body_of before deep (stmt_tokens f ++ Word End ∷ rest)) ≡ Some
    (body_of (before ++ stmts_of f) (max deep (stmt_depth f)) rest)

-- the law of a form, in each place where it may stand
pub record StmtAgain (f : StmtForm) : Type 0 where
  pub reads : IsStmtRead f
  pub inside : IsBodyRead f

of_statement : (f : StmtForm) → is_statement f ≡ true → ((d : ℕ) (rest : List TokenTree) → IsStatement f → stmt_depth f ≤ suc d → stmt_depth f ≤ 256
    → IsFree f rest → statement_at (statement d) (stmt_tokens f ++ rest) ≡ Some (stmt_form f rest)) → 1 ≤ stmt_depth f → StmtAgain f
of_statement f is law some = record {
  reads = at;
  inside = λ d k before deep rest formed none. absurd (both_ways _ none is);
}
  where
    at : IsStmtRead f
    at zero rest formed is deep small free = absurd (omega arith)
    at (suc d) rest formed is deep small free = law d rest formed deep small free

put_place_again : (n : List ℕ) (k : NumberForm) (value : ExprForm) (read : StmtReader) (rest : List TokenTree)
    → statement_at read (stmt_tokens (PutPlaceForm n k value)
    ++ rest) ≡ (assigned (Mark AtMost ∷ ((expr_tokens value ++ Mark Semicolon ∷ []) ++ rest)) >>= put_place n (number_value k))
put_place_again n ZeroForm value read rest = refl
put_place_again n (DecimalForm k) value read rest = refl

pub stmt_again : (f : StmtForm) → StmtAgain f
stmt_again (SetForm n value) = of_statement (SetForm n value) refl (λ d rest formed deep small free.
    ap (λ us. value_then Semicolon us >>= set_from n) (append_assoc (expr_tokens value) (Mark Semicolon ∷ []) rest)
    ∙ ap (λ o. o >>= set_from n) (assigned_again value rest formed.1 formed.0 (omega arith))
    ∙ deepened (expr_depth value) (λ k. stmt_found (set n (expr_of value)) k rest) (omega arith)) (omega arith)
stmt_again (PutPlaceForm n at value) = of_statement (PutPlaceForm n at value) refl (λ d rest formed deep small free.
    put_place_again n at value (statement d) rest
    ∙ ap (λ us. value_then Semicolon us >>= put_place n (number_value at)) (append_assoc (expr_tokens value) (Mark Semicolon ∷ []) rest)
    ∙ ap (λ o. o >>= put_place n (number_value at)) (assigned_again value rest formed.1 formed.0 (omega arith))
    ∙ deepened (expr_depth value) (λ k. stmt_found (put n (place (number_value at)) (expr_of value)) k rest) (omega arith)) (omega arith)
stmt_again (PutForm n at value) = of_statement (PutForm n at value) refl (λ d rest formed deep small free.
    let behind : List TokenTree = Mark AtMost ∷ (expr_tokens value ++ Mark Semicolon ∷ rest) in
    ap (λ us. put_by n us (first_number us)) (append_assoc (expr_tokens at)
    (Mark CloseBracket ∷ Mark AtMost ∷ (expr_tokens value ++ Mark Semicolon ∷ [])) rest ∙
    ap (λ us. expr_tokens at ++ Mark CloseBracket ∷ Mark AtMost ∷ us) (append_assoc (expr_tokens value) (Mark Semicolon ∷ []) rest))
    ∙ ap (put_by n (expr_tokens at ++ Mark CloseBracket ∷ behind)) (no_number at (Mark CloseBracket ∷ behind))
    ∙ ap (λ o. o >>= λ x. assigned x.rest >>= put_from n x)
    (value_again at CloseBracket behind formed.2 formed.0 (omega arith) refl (record { operator = refl; bracket = refl; question = λ _. refl }))
    ∙ ap (λ o. o >>= put_from n (found_form at behind)) (assigned_again value rest formed.3 formed.1 (omega arith))
    ∙ deepened (max (expr_depth at) (expr_depth value)) (λ k. stmt_found (put n (expr_of at) (expr_of value)) k rest) (omega arith)) (omega arith)
stmt_again (IfForm test a) = let law : IsStmtRead a = (stmt_again a).reads in of_statement (IfForm test a) refl (λ d rest formed deep small free.
    ap (statement_at (statement d)) (append_assoc (test_tokens test) (stmt_tokens a) rest)
    ∙ test_again test (statement d) (stmt_tokens a ++ rest) formed.2 formed.0 (omega arith)
    ∙ ap (λ o. o >>= λ y. with_else (statement d) (found_form test (stmt_tokens a ++ rest)) y (after_word Else y.rest))
    (law d rest formed.3 formed.1 (omega arith) (omega arith) (λ _. free refl))
    ∙ ap (with_else (statement d) (found_form test (stmt_tokens a ++ rest)) (stmt_form a rest)) (free refl)
    ∙ deepened (max (expr_depth test) (stmt_depth a)) (λ k. stmt_found (when (expr_of test) (stmt_of a)) k rest) (omega arith)) (omega arith)
stmt_again (IfElseForm test a b) =
    let first : IsStmtRead a = (stmt_again a).reads in let second : IsStmtRead b = (stmt_again b).reads in
    of_statement (IfElseForm test a b) refl (λ d rest formed deep small free.
    let behind : List TokenTree = Word Else ∷ (stmt_tokens b ++ rest) in
    ap (statement_at (statement d)) (append_assoc (test_tokens test) (stmt_tokens a ++ Word Else ∷ stmt_tokens b) rest ∙
    ap (λ ts. test_tokens test ++ ts) (append_assoc (stmt_tokens a) (Word Else ∷ stmt_tokens b) rest))
    ∙ test_again test (statement d) (stmt_tokens a ++ behind) formed.4 formed.0 (omega arith)
    ∙ ap (λ o. o >>= λ y. with_else (statement d) (found_form test (stmt_tokens a ++ behind)) y (after_word Else y.rest))
    (first d behind formed.5 formed.1 (omega arith) (omega arith) (λ open'. absurd (both_ways _ formed.3 open')))
    ∙ ap (λ o. o >>= either_of (found_form test (stmt_tokens a ++ behind)) (stmt_form a behind))
    (second d rest formed.6 formed.2 (omega arith) (omega arith) free)
    ∙ deepened (max (expr_depth test) (max (stmt_depth a) (stmt_depth b))) (λ k. stmt_found (either (expr_of test) (stmt_of a) (stmt_of b)) k rest)
    (omega arith)) (omega arith)
stmt_again (BlockForm b) = let law : IsBodyRead b = (stmt_again b).inside in of_statement (BlockForm b) refl (λ d rest formed deep small free.
    ap (λ ts. body (statement d) (length ts) (body_of [] 0 ts) >>= blocked) (append_assoc (stmt_tokens b) (Word End ∷ []) rest)
    ∙ ap (λ o. o >>= blocked) (law d (length (stmt_tokens b ++ Word End ∷ rest)) [] 0 rest formed.1 formed.0 (omega arith) (omega arith)
    (omega (arith, count_below b formed.1, length-append (stmt_tokens b) (Word End ∷ rest))))
    ∙ ap (λ n. blocked (body_of (stmts_of b) n rest)) (let e : max 0 (stmt_depth b) ≡ stmt_depth b = omega arith in e)
    ∙ deepened (stmt_depth b) (λ k. stmt_found (block_of (stmts_of b)) k rest) (omega arith)
    ∙ ap (λ t. Some (stmt_found t (stmt_depth b + 1) rest)) (block_stmts b formed.1 formed.0)) (omega arith)
stmt_again NoMore = record {
  reads = λ d rest formed is. absurd (let e : false ≡ true = is in cc);
  inside = none;
}
  where
    none : IsBodyRead NoMore
    none d zero before deep rest formed is nested small enough = absurd (omega arith)
    none d (suc k) before deep rest formed is nested small enough = ap (λ ts. Some (body_of ts deep rest)) (sym (append-nil before)) ∙
        ap (λ n. Some (body_of (before ++ []) n rest)) (let e : deep ≡ max deep 0 = omega arith in e)
stmt_again (More first b) = record {
  reads = λ d rest formed is. absurd (let e : false ≡ true = is in cc);
  inside = some first b (stmt_again first).reads (stmt_again b).inside;
}
  where
    some : (first b : StmtForm) → IsStmtRead first → IsBodyRead b → IsBodyRead (More first b)
    some first b law more d zero before deep rest formed is nested small enough = absurd (omega arith)
    some first b law more d (suc k) before deep rest formed is nested small enough =
        let behind : List TokenTree = stmt_tokens b ++ Word End ∷ rest in
        ap (λ ts. body (statement d) (suc k) (body_of before deep ts)) (append_assoc (stmt_tokens first) (stmt_tokens b) (Word End ∷ rest))
        ∙ ap (by_end (statement d) (body (statement d) k) (body_of before deep (stmt_tokens first ++ behind))) (no_end first behind formed.0)
        ∙ ap (λ o. o >>= λ s. body (statement d) k (with_statement (body_of before deep (stmt_tokens first ++ behind)) s))
        (law d behind formed.2 formed.0 (omega arith) (omega arith) (λ _. no_else_in b rest formed.3 formed.1))
        ∙ more d k (before ++ stmt_of first ∷ []) (max deep (stmt_depth first)) rest formed.3 formed.1 (omega arith) (omega arith) (omega arith)
        ∙ ap (λ ts. Some (body_of ts (max (max deep (stmt_depth first)) (stmt_depth b)) rest)) (append_assoc before (stmt_of first ∷ []) (stmts_of b))
        ∙ ap (λ n. Some (body_of (before ++ stmt_of first ∷ stmts_of b) n rest))
        (let e : max (max deep (stmt_depth first)) (stmt_depth b) ≡ max deep (max (stmt_depth first) (stmt_depth b)) = omega arith in e)

pub whole_stmt_again : (f : StmtForm) (rest : List TokenTree) → IsStatement f → is_statement f ≡ true → stmt_depth f ≤ 256 → IsFree f rest
    → whole_statement (stmt_tokens f ++ rest) ≡ Some (stmt_form f rest)
unfolding whole_statement
whole_stmt_again f rest formed is small free = (stmt_again f).reads 256 rest formed is small small free

-- no `else` stands in front
pub free_from : (f : StmtForm) (rest : List TokenTree) → (is_open f ≡ true → (more : List TokenTree) → rest ≡ Word Else ∷ more → ⊥) → IsFree f rest
free_from f rest apart is = elim (after_word Else rest) as (λ o. after_word Else rest ≡ o → o ≡ None) [
  | None ↦ λ e. refl
  | Some us ↦ λ e. absurd (apart is us (word_was Else rest us e))
] refl

pub free_to : (f : StmtForm) (rest : List TokenTree) → IsFree f rest → is_open f ≡ true → (more : List TokenTree) → rest ≡ Word Else ∷ more → ⊥
free_to f rest free is more e = let e' : None ≡ Some more = sym (free is) ∙ ap (after_word Else) e in cc
