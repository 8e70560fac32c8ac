-- What is read as an expression is written so.
use Rattle.std.proofs.Common.{◌≡◌, ℕ, zero, suc, ◌+◌, ◌-◌, ◌≤◌, List, [], ◌∷◌, ◌++◌, length, Option, Some, None, refl, sym, ap, ◌∙◌, subst, arith, append_assoc, max, lit≤, inl, inr}
use Rattle.std.specs.Prelude.{nat_le, MatchOption}
use Rattle.std.proofs.lemmas.Bool.{ltb-true, cond-true, cond-false, leb-true, leb-false, cases_Bool}
use Rattle.std.proofs.lemmas.Option.{cond_some}
use Rattle.ae_vtoken.specs.Tokens.{TokenTree, Name, Word, Unused, Zero, Decimal, Sized, Mark}
use Rattle.ae_vtoken.specs.declared.token.Sign.TheVariants.{Open, Close, OpenBracket, CloseBracket, OpenBrace, CloseBrace, Comma, Colon, Question, Plus, Minus, Star, Amp, Bar, Caret, Tilde, Bang, Less, Greater, AtMost, AtLeast, Same, Differs, BothAmp, BothBar, ShiftLeft, ShiftRight}
use Rattle.ae_vmodule.specs.declared.module.BinOp.{BinOp}
use Rattle.ae_vmodule.specs.ModuleTree.{ExprTree, name, constant, place, part, index, unary, binary, choice}
use Rattle.ae_vread.specs.ExprForms.{number_token, ExprForm, NameForm, ConstForm, PartForm, PlaceForm, IndexForm, ParensForm, PrefixForm, InfixForm, ChoiceForm, BracesForm, LastPart, MoreParts, prefix_sign, infix_sign, strength, level, IsFormedExpr, expr_tokens, expr_of, expr_depth}
use Rattle.ae_vread.specs.TokenTests.{◌>>=◌, after_mark, first_number}
use Rattle.ae_vread.specs.Reading.{infix_of, sign_infix, sign_start, start_of, Start, StartName, StartConst, StartOpen, StartBrace, StartPrefix, NoStart, Found, found, Reader, deeper, closed, placed, indexed, selected, named, Parts, parts_of, with_part, by_comma, more_parts, parts, concat_of, braced, operand_from, operand, prefixed, unary_from, unary_at, strong_infix, infix_at, joined, after_operator, operators, chosen_of, by_question, chosen, joined_at, expression, whole_expression}
use Rattle.ae_vread.proofs.TokenFronts.{bind_some, mark_was, IsNumber, number_was}
use Rattle.ae_vread.proofs.Operators.{OpEnds, strength_below, strength_above, infix_here, above_all}
use Rattle.ae_vread.proofs.ExprAgain.{trees_of, concat_trees}

-- which token begins so
abbrev Begun : Start → TokenTree → Type 0
Begun (StartName n) t = t ≡ Name n
Begun (StartConst size value fits) t = t ≡ Sized size value fits
Begun StartOpen t = t ≡ Mark Open
Begun StartBrace t = t ≡ Mark OpenBrace
Begun (StartPrefix op) t = t ≡ Mark (prefix_sign op)
Begun NoStart t = Unit {0}

begun : (t : TokenTree) → Begun (start_of t) t
begun (Name n) = refl
begun (Word k) = tt
begun Unused = tt
begun Zero = tt
begun (Decimal n) = tt
begun (Sized size value fits) = refl
begun (Mark s) = elim s as (λ s. Begun (sign_start s) (Mark s)) [ Open ↦ refl | OpenBrace ↦ refl | Bang ↦ refl | Tilde ↦ refl | _ ↦ tt ]

infix_is : (t : TokenTree) → MatchOption (infix_of t) (Unit {0}) (λ op. t ≡ Mark (infix_sign op))
infix_is (Name n) = tt
infix_is (Word k) = tt
infix_is Unused = tt
infix_is Zero = tt
infix_is (Decimal n) = tt
infix_is (Sized size value fits) = tt
infix_is (Mark s) = elim s as (λ s. MatchOption (sign_infix s) (Unit {0}) (λ op. Mark s ≡ Mark (infix_sign op))) [
  | Star ↦ refl
  | Plus ↦ refl
  | Minus ↦ refl
  | Amp ↦ refl
  | Bar ↦ refl
  | Caret ↦ refl
  | Less ↦ refl
  | Greater ↦ refl
  | AtMost ↦ refl
  | AtLeast ↦ refl
  | Same ↦ refl
  | Differs ↦ refl
  | BothAmp ↦ refl
  | BothBar ↦ refl
  | ShiftLeft ↦ refl
  | ShiftRight ↦ refl
  | _ ↦ tt
]

-- the tokens in front are a form with this tree
pub record IsForm (f : ExprForm) (ts : List TokenTree) (x : Found) : Type 0 where
  pub formed : IsFormedExpr f
  pub same_tree : expr_of f ≡ x.tree
  pub same_depth : expr_depth f ≡ x.depth
  pub small : expr_depth f ≤ 256
  pub whole : ts ≡ expr_tokens f ++ x.rest

-- before any operator behind it
pub record IsFront (ts : List TokenTree) (x : Found) : Type 0 where
  pub form : ExprForm
  pub is : IsForm form ts x
  pub strong : 2 ≤ level form
  pub ends : OpEnds (level form + 1) x.rest

-- and no operator that strong stands behind it
pub record IsReading (least : ℕ) (ts : List TokenTree) (x : Found) : Type 0 where
  pub form : ExprForm
  pub is : IsForm form ts x
  pub some : 1 ≤ level form
  pub strong : least ≤ level form
  pub ends : OpEnds least x.rest

abbrev pub IsSound : Reader → Type 0
IsSound read = (least : ℕ) (ts : List TokenTree) (x : Found) → 1 ≤ least → least ≤ 12 → read least ts ≡ Some x → IsReading least ts x

-- an operand
record IsOperand (ts : List TokenTree) (x : Found) : Type 0 where
  form : ExprForm
  is : IsForm form ts x
  top : level form ≡ 13

-- what a level more gave
pub record IsDeeper (n m : ℕ) : Type 0 where
  pub one_more : n + 1 ≡ m
  pub small : n + 1 ≤ 256

deeper_was : (n m : ℕ) → deeper n ≡ Some m → IsDeeper n m
deeper_was n m h =
    let parts = cond_some _ _ _ h in
    record { one_more = parts.1; small = (let below = ltb-true n 256 parts.0 in omega arith) }

-- a step over a depth gave this
pub record IsDeepened {X : Type 0} (n : ℕ) (f : ℕ → X) (x : X) : Type 0 where
  pub same : f (n + 1) ≡ x
  pub small : n + 1 ≤ 256

pub deepened_was : {X : Type 0} (n : ℕ) (f : ℕ → X) (x : X) → (deeper n >>= λ k. Some (f k)) ≡ Some x → IsDeepened n f x
deepened_was n f x h =
    let step = bind_some (deeper n) (λ k. Some (f k)) x h in
    let was = deeper_was n step.0 step.1 in
    record {
      same = ap f was.one_more ∙ (let e : Some (f step.0) ≡ Some x = step.2 in let e' : f step.0 ≡ x = cc in e');
      small = was.small;
    }

-- a form with what was found
form_found : (f : ExprForm) (ts rest : List TokenTree) (tree : ExprTree) (depth : ℕ) (x : Found) → found tree depth rest ≡ x → IsFormedExpr f
    → expr_of f ≡ tree → expr_depth f ≡ depth → expr_depth f ≤ 256 → ts ≡ expr_tokens f ++ rest → IsForm f ts x
form_found f ts rest tree depth x same formed is_tree is_depth small whole = record {
  formed = formed;
  same_tree = is_tree ∙ ap (λ (y : Found). y.tree) same;
  same_depth = is_depth ∙ ap (λ (y : Found). y.depth) same;
  small = small;
  whole = whole ∙ ap (λ (y : Found). expr_tokens f ++ y.rest) same;
}

pub some_same : {X : Type 0} (a b : X) → Some a ≡ Some b → a ≡ b
some_same a b h = cc

-- selects

placed_sound : (n : List ℕ) (us : List TokenTree) (k : ℕ × List TokenTree) (x : Found) (o : Option (List TokenTree)) → IsNumber us k → after_mark Colon k.1 ≡ o
    → placed n k.0 k.1 o ≡ Some x → IsOperand (Name n ∷ Mark OpenBracket ∷ us) x
placed_sound n us k x None num is h =
    let close = bind_some (after_mark CloseBracket k.1) (λ us. Some (found (index n (place k.0)) 2 us)) x h in
    let behind = mark_was CloseBracket k.1 close.0 close.1 in
    record {
      form = PlaceForm n num.form;
      is = form_found (PlaceForm n num.form) _ close.0 (index n (place k.0)) 2 x (some_same _ _ close.2) tt (ap (λ v. index n (place v)) num.value) refl
          (lit≤ tt)
          (ap (λ l. Name n ∷ Mark OpenBracket ∷ l) (num.whole ∙ ap (λ l. number_token num.form ∷ l) behind));
      top = refl;
    }
placed_sound n us k x (Some vs) num is h =
    let low = bind_some (first_number vs) (λ l. after_mark CloseBracket l.1 >>= λ ws. Some (found (part n k.0 l.0) 2 ws)) x h in
    let close = bind_some (after_mark CloseBracket low.0.1) (λ ws. Some (found (part n k.0 low.0.0) 2 ws)) x low.2 in
    let second = number_was vs low.0 low.1 in
    let form : ExprForm = PartForm n num.form second.form in
    record {
      form = form;
      is = form_found form _ close.0 (part n k.0 low.0.0) 2 x (some_same _ _ close.2) tt (λ i. part n (num.value i) (second.value i)) refl (lit≤ tt)
          (ap (λ l. Name n ∷ Mark OpenBracket ∷ l) (num.whole ∙
          ap (λ l. number_token num.form ∷ l) (mark_was Colon k.1 vs is ∙
          ap (λ l. Mark Colon ∷ l) (second.whole ∙ ap (λ l. number_token second.form ∷ l) (mark_was CloseBracket low.0.1 close.0 close.1)))));
      top = refl;
    }

selected_sound : (read : Reader) → IsSound read → (n : List ℕ) (us : List TokenTree) (x : Found) (o : Option (ℕ × List TokenTree)) → first_number us ≡ o
    → selected read n us o ≡ Some x → IsOperand (Name n ∷ Mark OpenBracket ∷ us) x
selected_sound read sound n us x None is h =
    let inner = bind_some (read 1 us) (indexed n) x h in
    let y : Found = inner.0 in
    let at : IsReading 1 us y = sound 1 us y (omega arith) (omega arith) inner.1 in
    let close = bind_some (after_mark CloseBracket y.rest) (λ ts. deeper y.depth >>= λ k. Some (found (index n y.tree) k ts)) x inner.2 in
    let deep = deepened_was y.depth (λ k. found (index n y.tree) k close.0) x close.2 in
    let form : ExprForm = IndexForm n at.form in
    record {
      form = form;
      is = form_found form _ close.0 (index n y.tree) (y.depth + 1) x deep.same (at.some, at.is.formed) (ap (index n) at.is.same_tree)
          (ap (λ n. n + 1) at.is.same_depth) (omega (arith, at.is.same_depth, deep.small))
          (ap (λ l. Name n ∷ Mark OpenBracket ∷ l) (at.is.whole ∙ ap (λ l. expr_tokens at.form ++ l) (mark_was CloseBracket y.rest close.0 close.1) ∙
          sym (append_assoc (expr_tokens at.form) (Mark CloseBracket ∷ []) close.0)));
      top = refl;
    }
selected_sound read sound n us x (Some k) is h = placed_sound n us k x (after_mark Colon k.1) (number_was us k is) refl h

named_sound : (read : Reader) → IsSound read → (n : List ℕ) (ts : List TokenTree) (x : Found) (o : Option (List TokenTree)) → after_mark OpenBracket ts ≡ o
    → named read n ts o ≡ Some x → IsOperand (Name n ∷ ts) x
named_sound read sound n ts x None is h = record {
  form = NameForm n;
  is = form_found (NameForm n) _ ts (name n) 1 x (some_same _ _ h) tt refl refl (lit≤ tt) refl;
  top = refl;
}
named_sound read sound n ts x (Some us) is h =
    subst (λ l. IsOperand (Name n ∷ l) x) (sym (mark_was OpenBracket ts us is)) (selected_sound read sound n us x (first_number us) refl h)

-- the parts inside braces
record AreParts (p q : Parts) : Type 0 where
  form : ExprForm
  formed : IsFormedExpr form
  none : level form ≡ 0
  trees : q.trees ≡ p.trees ++ trees_of form
  deepest : q.depth ≡ max p.depth (expr_depth form)
  small : expr_depth form ≤ 256
  whole : p.rest ≡ expr_tokens form ++ Mark CloseBrace ∷ q.rest

parts_sound : (read : Reader) → IsSound read → (k : ℕ) (p q : Parts) → parts read k p ≡ Some q → AreParts p q
parts_sound read sound zero p q h = absurd (let e : None ≡ Some q = h in cc)
parts_sound read sound (suc k) p q h =
    let first = bind_some (read 1 p.rest) (λ x. more_parts (parts read k) (with_part p x)) q h in
    let x : Found = first.0 in
    let a : IsReading 1 p.rest x = sound 1 p.rest x (omega arith) (omega arith) first.1 in
    elim (after_mark Comma x.rest) as (λ o. after_mark Comma x.rest ≡ o → by_comma (parts read k) (with_part p x) o ≡ Some q → AreParts p q) [
      | None ↦ λ is h.
          let close = bind_some (after_mark CloseBrace x.rest) (λ ts. Some (parts_of (p.trees ++ x.tree ∷ []) (max p.depth x.depth) ts)) q h in
          let same : parts_of (p.trees ++ x.tree ∷ []) (max p.depth x.depth) close.0 ≡ q = some_same _ _ close.2 in
          record {
            form = LastPart a.form;
            formed = (a.some, a.is.formed);
            none = refl;
            trees = sym (ap (λ (r : Parts). r.trees) same) ∙ ap (λ t. p.trees ++ t ∷ []) (sym a.is.same_tree);
            deepest = sym (ap (λ (r : Parts). r.depth) same) ∙ ap (λ n. max p.depth n) (sym a.is.same_depth);
            small = a.is.small;
            whole = a.is.whole ∙ ap (λ l. expr_tokens a.form ++ l)
                (mark_was CloseBrace x.rest close.0 close.1 ∙ ap (λ (r : Parts). Mark CloseBrace ∷ r.rest) same);
          }
      | Some ts ↦ λ is h.
          let more : AreParts (parts_of (p.trees ++ x.tree ∷ []) (max p.depth x.depth) ts) q = parts_sound read sound k
          (parts_of (p.trees ++ x.tree ∷ []) (max p.depth x.depth) ts) q h in
          record {
            form = MoreParts a.form more.form;
            formed = (a.some, more.none, a.is.formed, more.formed);
            none = refl;
            trees = more.trees ∙ append_assoc p.trees (x.tree ∷ []) (trees_of more.form) ∙ ap (λ t. p.trees ++ t ∷ trees_of more.form) (sym a.is.same_tree);
            deepest = more.deepest ∙ (let e : max (max p.depth x.depth) (expr_depth more.form) ≡ max p.depth
                (max x.depth (expr_depth more.form)) = omega arith in e) ∙ ap (λ n. max p.depth (max n (expr_depth more.form))) (sym a.is.same_depth);
            small = omega (arith, a.is.small, more.small);
            whole = a.is.whole ∙ ap (λ l. expr_tokens a.form ++ l) (mark_was Comma x.rest ts is ∙ ap (λ l. Mark Comma ∷ l) more.whole) ∙
                sym (append_assoc (expr_tokens a.form) (Mark Comma ∷ expr_tokens more.form) (Mark CloseBrace ∷ q.rest));
          }
    ] refl first.2

operand_from_sound : (read : Reader) → IsSound read → (s : Start) (t : TokenTree) (ts : List TokenTree) (x : Found) → Begun s t
    → operand_from read s ts ≡ Some x → IsOperand (t ∷ ts) x
operand_from_sound read sound (StartName n) t ts x is h =
    subst (λ t. IsOperand (t ∷ ts) x) (sym is) (named_sound read sound n ts x (after_mark OpenBracket ts) refl h)
operand_from_sound read sound (StartConst size value fits) t ts x is h = record {
  form = ConstForm size value fits;
  is = form_found (ConstForm size value fits) _ ts (constant size value fits) 1 x (some_same _ _ h) tt refl refl (lit≤ tt) (ap (λ t. t ∷ ts) is);
  top = refl;
}
operand_from_sound read sound StartOpen t ts x is h =
    let inner = bind_some (read 1 ts) closed x h in
    let y : Found = inner.0 in
    let a : IsReading 1 ts y = sound 1 ts y (omega arith) (omega arith) inner.1 in
    let close = bind_some (after_mark Close y.rest) (λ us. deeper y.depth >>= λ k. Some (found y.tree k us)) x inner.2 in
    let deep = deepened_was y.depth (λ k. found y.tree k close.0) x close.2 in
    record {
      form = ParensForm a.form;
      is = form_found (ParensForm a.form) _ close.0 y.tree (y.depth + 1) x deep.same (a.some, a.is.formed) a.is.same_tree (ap (λ n. n + 1) a.is.same_depth)
          (omega (arith, a.is.same_depth, deep.small))
          ((λ i. is i ∷ (a.is.whole ∙ ap (λ l. expr_tokens a.form ++ l) (mark_was Close y.rest close.0 close.1)) i) ∙
          ap (λ l. Mark Open ∷ l) (sym (append_assoc (expr_tokens a.form) (Mark Close ∷ []) close.0)));
      top = refl;
    }
operand_from_sound read sound StartBrace t ts x is h =
    let inner = bind_some (parts read (length ts) (parts_of [] 0 ts)) braced x h in
    let q : Parts = inner.0 in
    let are = parts_sound read sound (length ts) (parts_of [] 0 ts) q inner.1 in
    let deep = deepened_was q.depth (λ k. found (concat_of q.trees) k q.rest) x inner.2 in
    let same : q.depth ≡ expr_depth are.form = are.deepest ∙ (let e : max 0 (expr_depth are.form) ≡ expr_depth are.form = omega arith in e) in
    record {
      form = BracesForm are.form;
      is = form_found (BracesForm are.form) _ q.rest (concat_of q.trees) (q.depth + 1) x deep.same (are.none, are.formed)
          (sym (concat_trees are.form are.formed are.none) ∙ ap concat_of (sym are.trees)) (ap (λ n. n + 1) (sym same)) (omega (arith, same, deep.small))
          ((λ i. is i ∷ are.whole i) ∙ ap (λ l. Mark OpenBrace ∷ l) (sym (append_assoc (expr_tokens are.form) (Mark CloseBrace ∷ []) q.rest)));
      top = refl;
    }
operand_from_sound read sound (StartPrefix op) t ts x is h = absurd (let e : None ≡ Some x = h in cc)
operand_from_sound read sound NoStart t ts x is h = absurd (let e : None ≡ Some x = h in cc)

operand_sound : (read : Reader) → IsSound read → (ts : List TokenTree) (x : Found) → operand read ts ≡ Some x → IsOperand ts x
operand_sound read sound [] x h = absurd (let e : None ≡ Some x = h in cc)
operand_sound read sound (t ∷ ts) x h = operand_from_sound read sound (start_of t) t ts x (begun t) h

-- an operand or a prefix, which no operator is stronger than
record IsUnary (ts : List TokenTree) (x : Found) : Type 0 where
  front : IsFront ts x
  high : 12 ≤ level front.form

of_operand : (ts : List TokenTree) (x : Found) → IsOperand ts x → IsUnary ts x
of_operand ts x o = record {
  front = record { form = o.form; is = o.is; strong = omega (arith, o.top); ends = above_all (level o.form + 1) x.rest (omega (arith, o.top)) };
  high = omega (arith, o.top);
}

unary_from_sound : (read : Reader) → IsSound read → (s : Start) (t : TokenTree) (ts : List TokenTree) (x : Found) → Begun s t → unary_from read s ts ≡ Some x
    → IsUnary (t ∷ ts) x
unary_from_sound read sound (StartName n) t ts x is h = of_operand (t ∷ ts) x (operand_from_sound read sound (StartName n) t ts x is h)
unary_from_sound read sound (StartConst size value fits) t ts x is h =
    of_operand (t ∷ ts) x (operand_from_sound read sound (StartConst size value fits) t ts x is h)
unary_from_sound read sound StartOpen t ts x is h = of_operand (t ∷ ts) x (operand_from_sound read sound StartOpen t ts x is h)
unary_from_sound read sound StartBrace t ts x is h = of_operand (t ∷ ts) x (operand_from_sound read sound StartBrace t ts x is h)
unary_from_sound read sound NoStart t ts x is h = absurd (let e : None ≡ Some x = h in cc)
unary_from_sound read sound (StartPrefix op) t ts x is h =
    let inner = bind_some (operand read ts) (prefixed op) x h in
    let y : Found = inner.0 in
    let o = operand_sound read sound ts y inner.1 in
    let deep = deepened_was y.depth (λ k. found (unary op y.tree) k y.rest) x inner.2 in
    record {
      front = record {
        form = PrefixForm op o.form;
        is = form_found (PrefixForm op o.form) _ y.rest (unary op y.tree) (y.depth + 1) x deep.same (o.top, o.is.formed) (ap (unary op) o.is.same_tree)
            (ap (λ n. n + 1) o.is.same_depth) (omega (arith, o.is.same_depth, deep.small))
            (λ i. is i ∷ o.is.whole i);
        strong = omega arith;
        ends = above_all 13 x.rest (omega arith);
      };
      high = omega arith;
    }

unary_sound : (read : Reader) → IsSound read → (ts : List TokenTree) (x : Found) → unary_at read ts ≡ Some x → IsUnary ts x
unary_sound read sound [] x h = absurd (let e : None ≡ Some x = h in cc)
unary_sound read sound (t ∷ ts) x h = unary_from_sound read sound (start_of t) t ts x (begun t) h

infix_at_is : (least : ℕ) (ts : List TokenTree) (op : BinOp) (us : List TokenTree) → infix_at least ts ≡ Some (op, us) → (ts ≡ Mark (infix_sign op) ∷ us)
    × (least ≤ strength op)
infix_at_is least [] op us h = absurd (let e : None ≡ Some (op, us) = h in cc)
infix_at_is least (t ∷ ts) op us h =
    elim (infix_of t) as (λ o. MatchOption o (Unit {0}) (λ op. t ≡ Mark (infix_sign op)) → strong_infix least ts o ≡ Some (op, us)
    → (t ∷ ts ≡ Mark (infix_sign op) ∷ us) × (least ≤ strength op)) [
      | None ↦ λ is h. absurd (let e : None ≡ Some (op, us) = h in cc)
      | Some other ↦ λ is h.
          let parts = cond_some _ _ _ h in
          let same : other ≡ op = ap (λ (p : BinOp × List TokenTree). p.0) parts.1 in
          let behind : ts ≡ us = ap (λ (p : BinOp × List TokenTree). p.1) parts.1 in
          ((λ i. (is ∙ ap (λ op. Mark (infix_sign op)) same) i ∷ behind i), subst (λ op. least ≤ strength op) same (leb-true least (strength other) parts.0))
    ] (infix_is t) h

-- an operator behind a form is no stronger than the form
no_stronger : (n : ℕ) (op : BinOp) (ts us : List TokenTree) → OpEnds (n + 1) ts → ts ≡ Mark (infix_sign op) ∷ us → strength op ≤ n
no_stronger n op ts us ends is = elim (cases_Bool (nat_le (n + 1) (strength op))) [
  | inl strong ↦ absurd (let e : None ≡ Some (op, us) = sym ends ∙ ap (infix_at (n + 1)) is ∙
      infix_here (n + 1) op us (leb-true (n + 1) (strength op) strong) in cc)
  | inr weak ↦ omega (arith, leb-false (n + 1) (strength op) weak)
]

-- what the loop gave
record IsJoined (least : ℕ) (ts : List TokenTree) (y : Found) : Type 0 where
  front : IsFront ts y
  strong : least ≤ level front.form
  ends : OpEnds least y.rest

operators_sound : (read : Reader) → IsSound read → (k least : ℕ) (ts : List TokenTree) (x y : Found) (f : IsFront ts x) → least ≤ level f.form
    → operators read k least x ≡ Some y → IsJoined least ts y
operators_sound read sound zero least ts x y f strong h = absurd (let e : None ≡ Some y = h in cc)
operators_sound read sound (suc k) least ts x y f strong h =
    elim (infix_at least x.rest) as (λ o. infix_at least x.rest ≡ o → after_operator read (operators read k least) x o ≡ Some y → IsJoined least ts y) [
      | None ↦ λ none h. subst (IsJoined least ts) (some_same x y h) (record { front = f; strong = strong; ends = none })
      | Some o ↦ λ some h.
          let whole = bind_some (read (strength o.0 + 1) o.1 >>= joined o.0 x) (operators read k least) y h in
          let inner = bind_some (read (strength o.0 + 1) o.1) (joined o.0 x) whole.0 whole.1 in
          let z : Found = inner.0 in
          let deep = deepened_was (max x.depth z.depth) (λ k. found (binary o.0 x.tree z.tree) k z.rest) whole.0 inner.2 in
          let right : IsReading (strength o.0 + 1) o.1 z = sound (strength o.0 + 1) o.1 z (omega arith) (omega (arith, strength_below o.0)) inner.1 in
          let here = infix_at_is least x.rest o.0 o.1 some in
          let form : ExprForm = InfixForm o.0 f.form right.form in
          let depths : expr_depth form ≡ max x.depth z.depth + 1 = λ i. max (f.is.same_depth i) (right.is.same_depth i) + 1 in
          let next : IsFront ts whole.0 = record {
            form = form;
            is = form_found form ts z.rest (binary o.0 x.tree z.tree) (max x.depth z.depth + 1) whole.0 deep.same
                (no_stronger (level f.form) o.0 x.rest o.1 f.ends here.0, omega (arith, right.strong), f.is.formed, right.is.formed)
                (λ i. binary o.0 (f.is.same_tree i) (right.is.same_tree i)) depths (omega (arith, depths, deep.small))
                (f.is.whole ∙ ap (λ us. expr_tokens f.form ++ us) (here.0 ∙ ap (λ us. Mark (infix_sign o.0) ∷ us) right.is.whole) ∙
                sym (append_assoc (expr_tokens f.form) (Mark (infix_sign o.0) ∷ expr_tokens right.form) z.rest));
            strong = strength_above o.0;
            ends = subst (OpEnds (strength o.0 + 1)) (ap (λ (v : Found). v.rest) deep.same) right.ends;
          } in
          operators_sound read sound k least ts whole.0 y next here.1 whole.2
    ] refl h

-- a choice, or none
chosen_sound : (read : Reader) → IsSound read → (least : ℕ) (ts : List TokenTree) (x y : Found) → 1 ≤ least → IsJoined least ts x
    → chosen read least x ≡ Some y → IsReading least ts y
chosen_sound read sound least ts x y positive j h = elim (cases_Bool (nat_le least 1)) [
  | inr strong ↦ plain (sym (cond-false _ _ _ strong) ∙ h)
  | inl weak ↦ elim (after_mark Question x.rest) as (λ o. after_mark Question x.rest ≡ o → by_question read x o ≡ Some y → IsReading least ts y) [
    | None ↦ λ none h. plain h
    | Some us ↦ λ some h.
        let one : least ≤ 1 = leb-true least 1 weak in
        let first = bind_some (read 1 us) (λ a. after_mark Colon a.rest >>= λ vs. read 1 vs >>= chosen_of x a) y h in
        let a : IsReading 1 us first.0 = sound 1 us first.0 (omega arith) (omega arith) first.1 in
        let colon = bind_some (after_mark Colon first.0.rest) (λ vs. read 1 vs >>= chosen_of x first.0) y first.2 in
        let second = bind_some (read 1 colon.0) (chosen_of x first.0) y colon.2 in
        let b : IsReading 1 colon.0 second.0 = sound 1 colon.0 second.0 (omega arith) (omega arith) second.1 in
        let deep = deepened_was (max x.depth (max first.0.depth second.0.depth))
        (λ k. found (choice x.tree first.0.tree second.0.tree) k second.0.rest) y second.2 in
        let test : IsFront ts x = j.front in
        let form : ExprForm = ChoiceForm test.form a.form b.form in
        let depths : expr_depth form ≡ max x.depth (max first.0.depth second.0.depth) + 1 = λ i. max (test.is.same_depth i)
        (max (a.is.same_depth i) (b.is.same_depth i)) + 1 in
        record {
          form = form;
          is = form_found form ts second.0.rest (choice x.tree first.0.tree second.0.tree) (max x.depth (max first.0.depth second.0.depth) + 1) y deep.same
              (test.strong, a.some, b.some, test.is.formed, a.is.formed, b.is.formed)
              (λ i. choice (test.is.same_tree i) (a.is.same_tree i) (b.is.same_tree i)) depths (omega (arith, depths, deep.small))
              (test.is.whole ∙ ap (λ l. expr_tokens test.form ++ l)
              (mark_was Question x.rest us some ∙ ap (λ l. Mark Question ∷ l)
              (a.is.whole ∙ ap (λ l. expr_tokens a.form ++ l) (mark_was Colon first.0.rest colon.0 colon.1 ∙ ap (λ l. Mark Colon ∷ l) b.is.whole)))
              ∙ sym (append_assoc (expr_tokens test.form) (Mark Question ∷ (expr_tokens a.form ++ Mark Colon ∷ expr_tokens b.form)) second.0.rest
              ∙ ap (λ l. expr_tokens test.form ++ Mark Question ∷ l) (append_assoc (expr_tokens a.form) (Mark Colon ∷ expr_tokens b.form) second.0.rest)));
          some = omega arith;
          strong = one;
          ends = subst (OpEnds least) (ap (λ (v : Found). v.rest) deep.same)
              (subst (λ n. OpEnds n second.0.rest) (let e : 1 ≡ least = omega arith in e) b.ends);
        }
  ] refl (sym (cond-true _ _ _ weak) ∙ h)
]
  where
    plain : Some x ≡ Some y → IsReading least ts y
    plain e = subst (IsReading least ts) (some_same x y e)
        (record { form = j.front.form; is = j.front.is; some = omega (arith, j.front.strong); strong = j.strong; ends = j.ends })

-- what is read is a form with that tree
pub expression_sound : (d : ℕ) → IsSound (expression d)
expression_sound zero least ts x positive small h = absurd (let e : None ≡ Some x = h in cc)
expression_sound (suc d) least ts x positive small h =
    let whole = bind_some (joined_at (expression d) least ts) (chosen (expression d) least) x h in
    let first = bind_some (unary_at (expression d) ts) (operators (expression d) 256 least) whole.0 whole.1 in
    let f = unary_sound (expression d) (expression_sound d) ts first.0 first.1 in
    let j = operators_sound (expression d) (expression_sound d) 256 least ts first.0 whole.0 f.front (omega (arith, f.high)) first.2 in
    chosen_sound (expression d) (expression_sound d) least ts whole.0 x positive j whole.2

pub whole_sound : (ts : List TokenTree) (x : Found) → whole_expression ts ≡ Some x → IsReading 1 ts x
unfolding whole_expression
whole_sound ts x h = expression_sound 256 1 ts x (omega arith) (omega arith) h
