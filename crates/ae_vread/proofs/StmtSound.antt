-- What is read as a statement is written so.
use Rattle.std.proofs.Common.{◌≡◌, ℕ, zero, suc, ◌+◌, ◌≤◌, List, [], ◌∷◌, ◌++◌, length, true, false, Option, Some, None, refl, sym, ap, ◌∙◌, subst, arith, append_assoc, append-nil, max}
use Rattle.ae_vtoken.specs.Tokens.{TokenTree, Name, Word, Unused, Zero, Decimal, Sized, Mark}
use Rattle.ae_vtoken.specs.declared.token.Key.TheVariants.{If, Else, Begin, End}
use Rattle.ae_vtoken.specs.declared.token.Sign.{Sign}
use Rattle.ae_vtoken.specs.declared.token.Sign.TheVariants.{Open, Close, OpenBracket, CloseBracket, Semicolon, AtMost}
use Rattle.ae_vmodule.specs.ModuleTree.{StmtTree, set, put, when, either, place}
use Rattle.ae_vread.specs.ExprForms.{number_token, ExprForm, level, IsFormedExpr, expr_tokens, expr_of, expr_depth}
use Rattle.ae_vread.specs.StmtForms.{StmtForm, SetForm, PutPlaceForm, PutForm, IfForm, IfElseForm, BlockForm, NoMore, More, is_statement, is_open, IsStatement, test_tokens, stmt_tokens, stmt_of, stmt_depth}
use Rattle.ae_vread.specs.TokenTests.{◌>>=◌, after_mark, after_word, first_number}
use Rattle.ae_vread.specs.Reading.{Found, found, whole_expression}
use Rattle.ae_vread.specs.StmtReading.{StmtFound, stmt_found, Body, body_of, StmtReader, value_then, assigned, set_from, put_place, put_from, put_by, target_from, test_then, either_of, with_else, choice_from, block_of, with_statement, by_end, body, blocked, StmtStart, StartTarget, StartIf, StartBegin, NoStmt, stmt_start, statement_from, statement, whole_statement}
use Rattle.ae_vread.proofs.TokenFronts.{bind_some, mark_was, word_was, IsNumber, number_was}
use Rattle.ae_vread.proofs.ExprSound.{IsReading, whole_sound, deepened_was, some_same}
use Rattle.ae_vread.proofs.StmtAgain.{IsFree, stmts_of, block_stmts}

-- an expression up to a sign
pub record IsValue (s : Sign) (ts : List TokenTree) (x : Found) : Type 0 where
  pub form : ExprForm
  pub formed : IsFormedExpr form
  pub some : 1 ≤ level form
  pub same_tree : expr_of form ≡ x.tree
  pub same_depth : expr_depth form ≡ x.depth
  pub small : expr_depth form ≤ 256
  pub whole : ts ≡ expr_tokens form ++ Mark s ∷ x.rest

pub value_was : (s : Sign) (ts : List TokenTree) (x : Found) → value_then s ts ≡ Some x → IsValue s ts x
value_was s ts x h =
    let inner = bind_some (whole_expression ts) (λ x. after_mark s x.rest >>= λ us. Some (found x.tree x.depth us)) x h in
    let y : Found = inner.0 in
    let a : IsReading 1 ts y = whole_sound ts y inner.1 in
    let close = bind_some (after_mark s y.rest) (λ us. Some (found y.tree y.depth us)) x inner.2 in
    let same : found y.tree y.depth close.0 ≡ x = some_same _ _ close.2 in
    record {
      form = a.form;
      formed = a.is.formed;
      some = a.some;
      same_tree = a.is.same_tree ∙ ap (λ (z : Found). z.tree) same;
      same_depth = a.is.same_depth ∙ ap (λ (z : Found). z.depth) same;
      small = a.is.small;
      whole = a.is.whole ∙ ap (λ l. expr_tokens a.form ++ l) (mark_was s y.rest close.0 close.1 ∙ ap (λ (z : Found). Mark s ∷ z.rest) same);
    }

record IsAssigned (ts : List TokenTree) (x : Found) : Type 0 where
  value : ExprForm
  formed : IsFormedExpr value
  some : 1 ≤ level value
  same_tree : expr_of value ≡ x.tree
  same_depth : expr_depth value ≡ x.depth
  small : expr_depth value ≤ 256
  whole : ts ≡ Mark AtMost ∷ (expr_tokens value ++ Mark Semicolon ∷ x.rest)

assigned_was : (ts : List TokenTree) (x : Found) → assigned ts ≡ Some x → IsAssigned ts x
assigned_was ts x h =
    let at = bind_some (after_mark AtMost ts) (value_then Semicolon) x h in
    let v = value_was Semicolon at.0 x at.2 in
    record {
      value = v.form;
      formed = v.formed;
      some = v.some;
      same_tree = v.same_tree;
      same_depth = v.same_depth;
      small = v.small;
      whole = mark_was AtMost ts at.0 at.1 ∙ ap (λ l. Mark AtMost ∷ l) v.whole;
    }

-- the tokens in front are a statement with this tree
pub record IsStmt (ts : List TokenTree) (x : StmtFound) : Type 0 where
  pub form : StmtForm
  pub statement : is_statement form ≡ true
  pub formed : IsStatement form
  pub same_tree : stmt_of form ≡ x.tree
  pub same_depth : stmt_depth form ≡ x.depth
  pub small : stmt_depth form ≤ 256
  pub whole : ts ≡ stmt_tokens form ++ x.rest
  pub free : IsFree form x.rest

-- a form with what was found
form_found : (f : StmtForm) (ts rest : List TokenTree) (tree : StmtTree) (depth : ℕ) (x : StmtFound) → stmt_found tree depth rest ≡ x → is_statement f ≡ true
    → IsStatement f → stmt_of f ≡ tree → stmt_depth f ≡ depth → stmt_depth f ≤ 256 → ts ≡ stmt_tokens f ++ rest → IsFree f rest → IsStmt ts x
form_found f ts rest tree depth x same is formed is_tree is_depth small whole free =
    subst (IsStmt ts) same (record {
      form = f;
      statement = is;
      formed = formed;
      same_tree = is_tree;
      same_depth = is_depth;
      small = small;
      whole = whole;
      free = free;
    })

not_open : (f : StmtForm) (ts : List TokenTree) → is_open f ≡ false → IsFree f ts
not_open f ts h e = absurd (let e' : true ≡ false = sym e ∙ h in cc)

set_sound : (n : List ℕ) (ts : List TokenTree) (x : StmtFound) → (assigned ts >>= set_from n) ≡ Some x → IsStmt (Name n ∷ ts) x
set_sound n ts x h =
    let inner = bind_some (assigned ts) (set_from n) x h in
    let y : Found = inner.0 in
    let v = assigned_was ts y inner.1 in
    let deep = deepened_was y.depth (λ k. stmt_found (set n y.tree) k y.rest) x inner.2 in
    form_found (SetForm n v.value) (Name n ∷ ts) y.rest (set n y.tree) (y.depth + 1) x deep.same refl (v.some, v.formed) (ap (set n) v.same_tree)
    (ap (λ n. n + 1) v.same_depth) (omega (arith, v.same_depth, deep.small))
    (ap (λ l. Name n ∷ l) (v.whole ∙ ap (λ l. Mark AtMost ∷ l) (sym (append_assoc (expr_tokens v.value) (Mark Semicolon ∷ []) y.rest))))
    (not_open (SetForm n v.value) y.rest refl)

put_sound : (n : List ℕ) (us : List TokenTree) (x : StmtFound) (o : Option (ℕ × List TokenTree)) → first_number us ≡ o → put_by n us o ≡ Some x
    → IsStmt (Name n ∷ Mark OpenBracket ∷ us) x
put_sound n us x None is h =
    let inner = bind_some (value_then CloseBracket us) (λ at. assigned at.rest >>= put_from n at) x h in
    let at : Found = inner.0 in
    let a = value_was CloseBracket us at inner.1 in
    let second = bind_some (assigned at.rest) (put_from n at) x inner.2 in
    let y : Found = second.0 in
    let v = assigned_was at.rest y second.1 in
    let deep = deepened_was (max at.depth y.depth) (λ k. stmt_found (put n at.tree y.tree) k y.rest) x second.2 in
    let form : StmtForm = PutForm n a.form v.value in
    let depths : stmt_depth form ≡ max at.depth y.depth + 1 = λ i. max (a.same_depth i) (v.same_depth i) + 1 in
    form_found form _ y.rest (put n at.tree y.tree) (max at.depth y.depth + 1) x deep.same refl (a.some, v.some, a.formed, v.formed)
    (λ i. put n (a.same_tree i) (v.same_tree i)) depths (omega (arith, depths, deep.small))
    (ap (λ l. Name n ∷ Mark OpenBracket ∷ l) (a.whole ∙ ap (λ l. expr_tokens a.form ++ Mark CloseBracket ∷ l) v.whole
    ∙ sym (append_assoc (expr_tokens a.form) (Mark CloseBracket ∷ Mark AtMost ∷ (expr_tokens v.value ++ Mark Semicolon ∷ [])) y.rest ∙
    ap (λ l. expr_tokens a.form ++ Mark CloseBracket ∷ Mark AtMost ∷ l) (append_assoc (expr_tokens v.value) (Mark Semicolon ∷ []) y.rest))))
    (not_open form y.rest refl)
put_sound n us x (Some k) is h =
    let num : IsNumber us k = number_was us k is in
    let close = bind_some (after_mark CloseBracket k.1) (λ us. assigned us >>= put_place n k.0) x h in
    let second = bind_some (assigned close.0) (put_place n k.0) x close.2 in
    let y : Found = second.0 in
    let v = assigned_was close.0 y second.1 in
    let deep = deepened_was y.depth (λ d. stmt_found (put n (place k.0) y.tree) d y.rest) x second.2 in
    let form : StmtForm = PutPlaceForm n num.form v.value in
    form_found form _ y.rest (put n (place k.0) y.tree) (y.depth + 1) x deep.same refl (v.some, v.formed) (λ i. put n (place (num.value i)) (v.same_tree i))
    (ap (λ n. n + 1) v.same_depth) (omega (arith, v.same_depth, deep.small))
    (ap (λ l. Name n ∷ Mark OpenBracket ∷ l) (num.whole ∙
    ap (λ l. number_token num.form ∷ l) (mark_was CloseBracket k.1 close.0 close.1 ∙
    ap (λ l. Mark CloseBracket ∷ l) (v.whole ∙ ap (λ l. Mark AtMost ∷ l) (sym (append_assoc (expr_tokens v.value) (Mark Semicolon ∷ []) y.rest))))))
    (not_open form y.rest refl)

target_sound : (n : List ℕ) (ts : List TokenTree) (x : StmtFound) (o : Option (List TokenTree)) → after_mark OpenBracket ts ≡ o → target_from n ts o ≡ Some x
    → IsStmt (Name n ∷ ts) x
target_sound n ts x None is h = set_sound n ts x h
target_sound n ts x (Some us) is h = subst (λ l. IsStmt (Name n ∷ l) x) (sym (mark_was OpenBracket ts us is)) (put_sound n us x (first_number us) refl h)

abbrev pub IsStmtSound : StmtReader → Type 0
IsStmtSound read = (ts : List TokenTree) (x : StmtFound) → read ts ≡ Some x → IsStmt ts x

choice_sound : (read : StmtReader) → IsStmtSound read → (ts : List TokenTree) (x : StmtFound) → (test_then ts >>= choice_from read) ≡ Some x
    → IsStmt (Word If ∷ ts) x
choice_sound read sound ts x h =
    let tested = bind_some (test_then ts) (choice_from read) x h in
    let t : Found = tested.0 in
    let opened = bind_some (after_mark Open ts) (value_then Close) t tested.1 in
    let v = value_was Close opened.0 t opened.2 in
    let front : Word If ∷ ts ≡ test_tokens v.form ++ t.rest =
    ap (λ l. Word If ∷ l) (mark_was Open ts opened.0 opened.1 ∙ ap (λ l. Mark Open ∷ l) v.whole) ∙
    ap (λ l. Word If ∷ Mark Open ∷ l) (sym (append_assoc (expr_tokens v.form) (Mark Close ∷ []) t.rest)) in
    let first = bind_some (read t.rest) (λ y. with_else read t y (after_word Else y.rest)) x tested.2 in
    let y : StmtFound = first.0 in
    let a : IsStmt t.rest y = sound t.rest y first.1 in
    elim (after_word Else y.rest) as (λ o. after_word Else y.rest ≡ o → with_else read t y o ≡ Some x → IsStmt (Word If ∷ ts) x) [
      | None ↦ λ none h.
          let deep = deepened_was (max t.depth y.depth) (λ k. stmt_found (when t.tree y.tree) k y.rest) x h in
          let form : StmtForm = IfForm v.form a.form in
          let depths : stmt_depth form ≡ max t.depth y.depth + 1 = λ i. max (v.same_depth i) (a.same_depth i) + 1 in
          form_found form _ y.rest (when t.tree y.tree) (max t.depth y.depth + 1) x deep.same refl (v.some, a.statement, v.formed, a.formed)
          (λ i. when (v.same_tree i) (a.same_tree i)) depths (omega (arith, depths, deep.small))
          (front ∙ ap (λ l. test_tokens v.form ++ l) a.whole ∙ sym (append_assoc (test_tokens v.form) (stmt_tokens a.form) y.rest))
          (λ e. none)
      | Some us ↦ λ some h.
          let second = bind_some (read us) (either_of t y) x h in
          let z : StmtFound = second.0 in
          let b : IsStmt us z = sound us z second.1 in
          let deep = deepened_was (max t.depth (max y.depth z.depth)) (λ k. stmt_found (either t.tree y.tree z.tree) k z.rest) x second.2 in
          let form : StmtForm = IfElseForm v.form a.form b.form in
          let depths : stmt_depth form ≡ max t.depth (max y.depth z.depth) + 1 = λ i. max (v.same_depth i) (max (a.same_depth i) (b.same_depth i)) + 1 in
          form_found form _ z.rest (either t.tree y.tree z.tree) (max t.depth (max y.depth z.depth) + 1) x deep.same refl
          (v.some, a.statement, b.statement, shut a.form y.rest us a.free some, v.formed, a.formed, b.formed)
          (λ i. either (v.same_tree i) (a.same_tree i) (b.same_tree i)) depths (omega (arith, depths, deep.small))
          (front ∙ ap (λ l. test_tokens v.form ++ l) (a.whole ∙
          ap (λ l. stmt_tokens a.form ++ l) (word_was Else y.rest us some ∙ ap (λ l. Word Else ∷ l) b.whole))
          ∙ sym (append_assoc (test_tokens v.form) (stmt_tokens a.form ++ Word Else ∷ stmt_tokens b.form) z.rest ∙
          ap (λ l. test_tokens v.form ++ l) (append_assoc (stmt_tokens a.form) (Word Else ∷ stmt_tokens b.form) z.rest)))
          b.free
    ] refl first.2
  where
    -- what an `else` stands behind is not open
    shut : (f : StmtForm) (rest us : List TokenTree) → IsFree f rest → after_word Else rest ≡ Some us → is_open f ≡ false
    shut f rest us free some = elim (is_open f) as (λ b. (b ≡ true → after_word Else rest ≡ None) → b ≡ false) [
      | true ↦ λ free. absurd (let e : None ≡ Some us = sym (free refl) ∙ some in cc)
      | false ↦ λ free. refl
    ] free

-- the statements inside a block
record IsBody (p q : Body) : Type 0 where
  form : StmtForm
  inside : is_statement form ≡ false
  formed : IsStatement form
  trees : q.trees ≡ p.trees ++ stmts_of form
  deepest : q.depth ≡ max p.depth (stmt_depth form)
  small : stmt_depth form ≤ 256
  whole : p.rest ≡ stmt_tokens form ++ Word End ∷ q.rest

body_sound : (read : StmtReader) → IsStmtSound read → (k : ℕ) (p q : Body) → body read k p ≡ Some q → IsBody p q
body_sound read sound zero p q h = absurd (let e : None ≡ Some q = h in cc)
body_sound read sound (suc k) p q h = elim (after_word End p.rest) as (λ o. after_word End p.rest ≡ o → by_end read (body read k) p o ≡ Some q → IsBody p q) [
  | Some us ↦ λ some h.
      let same : body_of p.trees p.depth us ≡ q = some_same _ _ h in
      record {
        form = NoMore;
        inside = refl;
        formed = tt;
        trees = sym (ap (λ (b : Body). b.trees) same) ∙ sym (append-nil p.trees);
        deepest = sym (ap (λ (b : Body). b.depth) same) ∙ (let e : p.depth ≡ max p.depth 0 = omega arith in e);
        small = omega arith;
        whole = word_was End p.rest us some ∙ ap (λ (b : Body). Word End ∷ b.rest) same;
      }
  | None ↦ λ none h.
      let first = bind_some (read p.rest) (λ s. body read k (with_statement p s)) q h in
      let x : StmtFound = first.0 in
      let a : IsStmt p.rest x = sound p.rest x first.1 in
      let more : IsBody (with_statement p x) q = body_sound read sound k (with_statement p x) q first.2 in
      record {
        form = More a.form more.form;
        inside = refl;
        formed = (a.statement, more.inside, a.formed, more.formed);
        trees = more.trees ∙ append_assoc p.trees (x.tree ∷ []) (stmts_of more.form) ∙ ap (λ t. p.trees ++ t ∷ stmts_of more.form) (sym a.same_tree);
        deepest = more.deepest ∙ (let e : max (max p.depth x.depth) (stmt_depth more.form) ≡ max p.depth (max x.depth (stmt_depth more.form)) = omega arith in
            e) ∙ ap (λ n. max p.depth (max n (stmt_depth more.form))) (sym a.same_depth);
        small = omega (arith, a.small, more.small);
        whole = a.whole ∙ ap (λ l. stmt_tokens a.form ++ l) more.whole ∙ sym (append_assoc (stmt_tokens a.form) (stmt_tokens more.form) (Word End ∷ q.rest));
      }
] refl h

block_sound : (read : StmtReader) → IsStmtSound read → (ts : List TokenTree) (x : StmtFound) → (body read (length ts) (body_of [] 0 ts) >>= blocked) ≡ Some x
    → IsStmt (Word Begin ∷ ts) x
block_sound read sound ts x h =
    let inner = bind_some (body read (length ts) (body_of [] 0 ts)) blocked x h in
    let q : Body = inner.0 in
    let b = body_sound read sound (length ts) (body_of [] 0 ts) q inner.1 in
    let deep = deepened_was q.depth (λ k. stmt_found (block_of q.trees) k q.rest) x inner.2 in
    let same : q.depth ≡ stmt_depth b.form = b.deepest ∙ (let e : max 0 (stmt_depth b.form) ≡ stmt_depth b.form = omega arith in e) in
    form_found (BlockForm b.form) (Word Begin ∷ ts) q.rest (block_of q.trees) (q.depth + 1) x deep.same refl (b.inside, b.formed)
    (sym (block_stmts b.form b.formed b.inside) ∙ ap block_of (sym b.trees)) (ap (λ n. n + 1) (sym same)) (omega (arith, same, deep.small))
    (ap (λ l. Word Begin ∷ l) (b.whole ∙ sym (append_assoc (stmt_tokens b.form) (Word End ∷ []) q.rest)))
    (not_open (BlockForm b.form) q.rest refl)

-- which token begins so
abbrev Begun : StmtStart → TokenTree → Type 0
Begun (StartTarget n) t = t ≡ Name n
Begun StartIf t = t ≡ Word If
Begun StartBegin t = t ≡ Word Begin
Begun NoStmt t = Unit {0}

begun : (t : TokenTree) → Begun (stmt_start t) t
begun (Name n) = refl
begun (Word k) = elim k as (λ k. Begun (stmt_start (Word k)) (Word k)) [ If ↦ refl | Begin ↦ refl | _ ↦ tt ]
begun Unused = tt
begun Zero = tt
begun (Decimal n) = tt
begun (Sized size value fits) = tt
begun (Mark s) = tt

from_sound : (read : StmtReader) → IsStmtSound read → (s : StmtStart) (t : TokenTree) (ts : List TokenTree) (x : StmtFound) → Begun s t
    → statement_from read s ts ≡ Some x → IsStmt (t ∷ ts) x
from_sound read sound (StartTarget n) t ts x is h = subst (λ t. IsStmt (t ∷ ts) x) (sym is) (target_sound n ts x (after_mark OpenBracket ts) refl h)
from_sound read sound StartIf t ts x is h = subst (λ t. IsStmt (t ∷ ts) x) (sym is) (choice_sound read sound ts x h)
from_sound read sound StartBegin t ts x is h = subst (λ t. IsStmt (t ∷ ts) x) (sym is) (block_sound read sound ts x h)
from_sound read sound NoStmt t ts x is h = absurd (let e : None ≡ Some x = h in cc)

pub statement_sound : (d : ℕ) → IsStmtSound (statement d)
statement_sound zero ts x h = absurd (let e : None ≡ Some x = h in cc)
statement_sound (suc d) [] x h = absurd (let e : None ≡ Some x = h in cc)
statement_sound (suc d) (t ∷ ts) x h = from_sound (statement d) (statement_sound d) (stmt_start t) t ts x (begun t) h

pub whole_stmt_sound : IsStmtSound whole_statement
unfolding whole_statement
whole_stmt_sound ts x h = statement_sound 256 ts x h
