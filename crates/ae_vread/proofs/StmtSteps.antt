-- What reading a statement gives where its parts are read.
use Rattle.std.proofs.Common.{◌≡◌, ℕ, zero, suc, ◌+◌, ◌-◌, ◌<◌, List, [], ◌∷◌, ◌++◌, Option, Some, None, Result, Ok, Err, ap, ◌∙◌, refl, subst, arith, length, map, max, drop}
use Rattle.std.specs.Prelude.{slice_get}
use Rattle.std.proofs.lemmas.List.{map-append}
use Rattle.ae_vtoken.specs.Tokens.{TokenTree, Word}
use Rattle.ae_vtoken.specs.declared.token.Key.TheVariants.{If, Else, End}
use Rattle.ae_vtoken.specs.declared.token.Sign.{Sign}
use Rattle.ae_vtoken.specs.declared.token.Sign.TheVariants.{OpenBracket, CloseBracket}
use Rattle.ae_vmodule.specs.ModuleTree.{StmtTree, block_more}
use Rattle.ae_vmodule.specs.Numbered.{NumberedStmt, Piece}
use Rattle.ae_vread.specs.declared.reading.ReadFault.{ReadFault}
use Rattle.ae_vread.specs.declared.reading.ReadFault.TheVariants.{Syntax, Memory}
use Rattle.ae_vread.specs.declared.reading.Reader as code
use Rattle.ae_vmodule.specs.Words.{Extends}
use Rattle.ae_vread.specs.TokenTests.{◌>>=◌, after_mark, after_word, first_number}
use Rattle.ae_vread.specs.Reading.{Found, found, deeper, whole_expression}
use Rattle.ae_vread.specs.StmtReading.{StmtFound, stmt_found, StmtReader, Body, body_of, body, by_end, blocked, block_of, block_at, value_then, assigned, test_then, set_from, put_by, put_place, put_from, target_from, with_else, choice_from, alone_of, either_of, statement_at, statement}
use Rattle.ae_vread.specs.ReadStmt.{MeansStmt, ReadsStmt, MeanAllStmts, block_parts}
use Rattle.ae_vmodule.specs.View.{stmt_tree}
use Rattle.ae_vread.proofs.Meanings.{deep_then, then_is, extends_by}

-- what is read on the way is what is read in the end
pub reads_from : (below : List Piece) (w0 w1 : List (List ℕ)) (r : code.Reader) (res : Result ℕ ReadFault) (o o' : Option StmtFound) → o ≡ o'
    → Extends w0 w1 → ReadsStmt below w1 r res o' → ReadsStmt below w0 r res o
reads_from below w0 w1 r (Ok d) o o' e ext h = (h.0, e ∙ h.1, h.2, extends_by w0 w1 r.words ext h.3)
reads_from below w0 w1 r (Err Syntax) o o' e ext h = e ∙ h
reads_from below w0 w1 r (Err Memory) o o' e ext h = tt

pub reads_under : (b b' : List Piece) (w : List (List ℕ)) (r : code.Reader) (res : Result ℕ ReadFault) (o : Option StmtFound) → b ≡ b' → ReadsStmt b w r res o
    → ReadsStmt b' w r res o
reads_under b b' w r res o same h = subst (λ b. ReadsStmt b w r res o) same h

pub stmt_means_later : (w0 w1 : List (List ℕ)) (s : NumberedStmt) (e : StmtTree) → Extends w0 w1 → MeansStmt w0 s e → MeansStmt w1 s e
stmt_means_later w0 w1 s e ext h ws g = h ws (extends_by w0 w1 ws ext g)

pub value_is : (s : Sign) (ts : List TokenTree) (x : Found) (us : List TokenTree) → whole_expression ts ≡ Some x → after_mark s x.rest ≡ Some us
    → value_then s ts ≡ Some (found x.tree x.depth us)
value_is s ts x us here mark =
    then_is (λ y. after_mark s y.rest >>= λ vs. Some (found y.tree y.depth vs)) _ x here ∙ then_is (λ vs. Some (found x.tree x.depth vs)) _ us mark

pub target_set : (n : List ℕ) (ts us : List TokenTree) (x : Found) → after_mark OpenBracket ts ≡ None → ts ≡ us → assigned us ≡ Some x
    → target_from n ts (after_mark OpenBracket ts) ≡ set_from n x
target_set n ts us x none same here = ap (target_from n ts) none ∙ then_is (set_from n) _ x (ap assigned same ∙ here)

pub put_place_is : (n : List ℕ) (k : ℕ) (ts us vs : List TokenTree) (x : Found) → first_number ts ≡ Some (k, us) → after_mark CloseBracket us ≡ Some vs
    → assigned vs ≡ Some x → put_by n ts (first_number ts) ≡ put_place n k x
put_place_is n k ts us vs x number mark here =
    ap (put_by n ts) number ∙ then_is (λ ws. assigned ws >>= put_place n k) _ vs mark ∙ then_is (put_place n k) _ x here

pub put_is : (n : List ℕ) (ts us : List TokenTree) (x y : Found) → first_number ts ≡ None → ts ≡ us → value_then CloseBracket us ≡ Some x
    → assigned x.rest ≡ Some y → put_by n ts (first_number ts) ≡ put_from n x y
put_is n ts us x y none same at value =
    ap (put_by n ts) none ∙ then_is (λ z. assigned z.rest >>= put_from n z) _ x (ap (value_then CloseBracket) same ∙ at) ∙ then_is (put_from n x) _ y value

pub statement_is : (d : ℕ) (ts : List TokenTree) → (d ≡ 0 → ⊥) → statement d ts ≡ statement_at (statement (d - 1)) ts
statement_is zero ts some = absurd (some refl)
statement_is (suc d) ts some = ap (λ d. statement_at (statement d) ts) (let e : d ≡ suc d - 1 = omega arith in e)

pub if_is : (read : StmtReader) (ts : List TokenTree) (x : Found) → slice_get ts 0 ≡ Some (Word If) → test_then (drop 1 ts) ≡ Some x
    → statement_at read ts ≡ choice_from read x
if_is read [] x first here = absurd (let e : None ≡ Some (Word If) = first in cc)
if_is read (t ∷ ts) x first here =
    let e : t ≡ Word If = (let f : Some t ≡ Some (Word If) = first in cc) in
    ap (λ t. statement_at read (t ∷ ts)) e ∙ then_is (choice_from read) _ x here

pub with_else_is : (read : StmtReader) (x : Found) (y z : StmtFound) (us : List TokenTree) → read x.rest ≡ Some y → after_word Else y.rest ≡ Some us
    → read us ≡ Some z → choice_from read x ≡ either_of x y z
with_else_is read x y z us first word second =
    then_is (λ s. with_else read x s (after_word Else s.rest)) _ y first ∙ ap (with_else read x y) word ∙ then_is (either_of x y) _ z second

pub alone_is : (read : StmtReader) (x : Found) (y : StmtFound) → read x.rest ≡ Some y → after_word Else y.rest ≡ None → choice_from read x ≡ alone_of x y
alone_is read x y first word = then_is (λ s. with_else read x s (after_word Else s.rest)) _ y first ∙ ap (with_else read x y) word

stmt_turn : (read : StmtReader) (m n : ℕ) (b : Body) → n < m → body read (m - n) b ≡ by_end read (body read (m - (n + 1))) b (after_word End b.rest)
stmt_turn read m n b below = ap (λ k. body read k b) (let e : m - n ≡ suc (m - (n + 1)) = omega arith in e)

pub next_stmt : (e : Option Body) (read : StmtReader) (m n : ℕ) (b : Body) (x : StmtFound) → n < m → e ≡ body read (m - n) b → after_word End b.rest ≡ None
    → read b.rest ≡ Some x → e ≡ body read (m - (n + 1)) (body_of (b.trees ++ x.tree ∷ []) (max b.depth x.depth) x.rest)
next_stmt e read m n b x below so_far none here =
    let go_on = body read (m - (n + 1)) in
    so_far ∙ stmt_turn read m n b below ∙ ap (by_end read go_on b) none
    ∙ then_is (λ s. go_on (body_of (b.trees ++ s.tree ∷ []) (max b.depth s.depth) s.rest)) _ x here

pub last_stmt : (e : Option Body) (read : StmtReader) (m n : ℕ) (b : Body) (us : List TokenTree) → n < m → e ≡ body read (m - n) b
    → after_word End b.rest ≡ Some us → e ≡ Some (body_of b.trees b.depth us)
last_stmt e read m n b us below so_far end =
    so_far ∙ stmt_turn read m n b below ∙ ap (by_end read (body read (m - (n + 1))) b) end

pub block_is : (read : StmtReader) (ts : List TokenTree) (b : Body) (d e : ℕ) → body read (length ts) (body_of [] 0 ts) ≡ Some b → d ≡ b.depth
    → deeper d ≡ Some e → block_at read ts ≡ Some (stmt_found (block_of b.trees) e b.rest)
block_is read ts b d e are same deep = then_is blocked _ b are ∙ deep_then (λ k. Some (stmt_found (block_of b.trees) k b.rest)) d b.depth e same deep

-- the block of statements has the block of their trees
block_from : (ws : List (List ℕ)) (ss : List NumberedStmt) → stmt_tree ws (block_parts ss) ≡ block_of (map (stmt_tree ws) ss)
block_from ws [] = refl
block_from ws (s ∷ ss) = ap (λ t. block_more (stmt_tree ws s) t) (block_from ws ss)

pub block_means : (words : List (List ℕ)) (ss : List NumberedStmt) (trees : List StmtTree) → MeanAllStmts words ss trees
    → MeansStmt words (block_parts ss) (block_of trees)
block_means words ss trees h ws g = block_from ws ss ∙ ap block_of (h ws g)

pub mean_more_stmts : (w0 w1 : List (List ℕ)) (ss : List NumberedStmt) (trees : List StmtTree) (s : NumberedStmt) (e : StmtTree) → Extends w0 w1
    → MeanAllStmts w0 ss trees → MeansStmt w1 s e → MeanAllStmts w1 (ss ++ s ∷ []) (trees ++ e ∷ [])
mean_more_stmts w0 w1 ss trees s e ext all one ws g =
    map-append (stmt_tree ws) ss (s ∷ []) ∙ (λ i. all ws (extends_by w0 w1 ws ext g) i ++ one ws g i ∷ [])
