-- What is written as an expression is read again.
use Rattle.std.proofs.Common.{◌≡◌, ℕ, zero, suc, ◌+◌, ◌-◌, ◌<◌, ◌≤◌, List, [], ◌∷◌, ◌++◌, length, length-append, true, Some, None, refl, ap, ◌∙◌, arith, append_assoc, max, inl, inr}
use Rattle.std.specs.Prelude.{nat_le}
use Rattle.std.proofs.lemmas.Bool.{lt-ltb, le-leb, leb-true, cond-true, cond-false, cases_Bool}
use Rattle.ae_vtoken.specs.Tokens.{TokenTree, Mark}
use Rattle.ae_vtoken.specs.declared.token.Sign.TheVariants.{Close, OpenBracket, CloseBracket, CloseBrace, Comma, Colon, Question}
use Rattle.ae_vmodule.specs.declared.module.UnOp.{UnOp}
use Rattle.ae_vmodule.specs.declared.module.UnOp.TheVariants.{Not, Flip}
use Rattle.ae_vmodule.specs.declared.module.BinOp.{BinOp}
use Rattle.ae_vmodule.specs.ModuleTree.{ExprTree, index, unary, binary, choice, concat_more}
use Rattle.ae_vread.specs.ExprForms.{NumberForm, ZeroForm, DecimalForm, ExprForm, NameForm, ConstForm, PartForm, PlaceForm, IndexForm, ParensForm, PrefixForm, InfixForm, ChoiceForm, BracesForm, LastPart, MoreParts, prefix_sign, infix_sign, strength, level, IsFormedExpr, expr_tokens, expr_of, expr_depth}
use Rattle.ae_vread.specs.TokenTests.{◌>>=◌, after_mark, first_number}
use Rattle.ae_vread.specs.Reading.{sign_start, StartPrefix, Found, found, Reader, deeper, closed, indexed, selected, named, parts_of, with_part, more_parts, parts, concat_behind, concat_of, braced, operand, prefixed, unary_from, unary_at, joined, after_operator, operators, chosen_of, by_question, chosen, joined_at, expression, whole_expression}
use Rattle.ae_vread.proofs.Operators.{OpEnds, strength_below, strength_above, infix_no_bracket, infix_here, infix_not_here, ends_above}

abbrev pub found_form : ExprForm → List TokenTree → Found
found_form f rest = found (expr_of f) (expr_depth f) rest

-- what may stand behind an expression
pub record Ends (least : ℕ) (ts : List TokenTree) : Type 0 where
  pub operator : OpEnds least ts
  pub bracket : after_mark OpenBracket ts ≡ None
  pub question : nat_le least 1 ≡ true → after_mark Question ts ≡ None

-- how often an expression goes on behind its first operand
abbrev pub spine : ExprForm → ℕ
spine (InfixForm op a b) = spine a + 1
spine _ = 0

spine_below : (f : ExprForm) → spine f < expr_depth f
spine_below (NameForm n) = omega arith
spine_below (ConstForm size value fits) = omega arith
spine_below (PartForm n high low) = omega arith
spine_below (PlaceForm n k) = omega arith
spine_below (IndexForm n at) = omega (arith, spine_below at)
spine_below (ParensForm a) = omega (arith, spine_below a)
spine_below (PrefixForm op a) = omega (arith, spine_below a)
spine_below (InfixForm op a b) = omega (arith, spine_below a)
spine_below (ChoiceForm test a b) = omega (arith, spine_below a)
spine_below (BracesForm parts) = omega (arith, spine_below parts)
spine_below (LastPart a) = omega (arith, spine_below a)
spine_below (MoreParts a parts) = omega (arith, spine_below a)

-- no expression begins with a number
pub no_number : (f : ExprForm) (ts : List TokenTree) → first_number (expr_tokens f ++ ts) ≡ None
no_number (NameForm n) ts = refl
no_number (ConstForm size value fits) ts = refl
no_number (PartForm n high low) ts = refl
no_number (PlaceForm n k) ts = refl
no_number (IndexForm n at) ts = refl
no_number (ParensForm a) ts = refl
no_number (PrefixForm op a) ts = refl
no_number (InfixForm op a b) ts = ap first_number (append_assoc (expr_tokens a) (Mark (infix_sign op) ∷ expr_tokens b) ts) ∙ no_number a _
no_number (ChoiceForm test a b) ts =
    ap first_number (append_assoc (expr_tokens test) (Mark Question ∷ (expr_tokens a ++ Mark Colon ∷ expr_tokens b)) ts) ∙ no_number test _
no_number (BracesForm parts) ts = refl
no_number (LastPart a) ts = no_number a ts
no_number (MoreParts a parts) ts = ap first_number (append_assoc (expr_tokens a) (Mark Comma ∷ expr_tokens parts) ts) ∙ no_number a _

-- the loop stops where no operator is in front
stops : (read : Reader) (k least : ℕ) (x : Found) → 0 < k → OpEnds least x.rest → operators read k least x ≡ Some x
stops read zero least x positive h = absurd (omega arith)
stops read (suc k) least x positive h = ap (after_operator read (operators read k least) x) h

not_chosen : (read : Reader) (least : ℕ) (x : Found) → (nat_le least 1 ≡ true → after_mark Question x.rest ≡ None) → chosen read least x ≡ Some x
not_chosen read least x h = elim (cases_Bool (nat_le least 1)) [
  | inl weak ↦ cond-true _ _ _ weak ∙ ap (by_question read x) (h weak)
  | inr strong ↦ cond-false _ _ _ strong
]

pub deeper_is : (n : ℕ) → n < 256 → deeper n ≡ Some (n + 1)
deeper_is n h = cond-true _ _ _ (lt-ltb n 256 h)

-- a step over a depth
pub deepened : {X : Type 0} (n : ℕ) (f : ℕ → X) → n < 256 → (deeper n >>= λ k. Some (f k)) ≡ Some (f (n + 1))
deepened n f h = ap (λ o. o >>= λ k. Some (f k)) (deeper_is n h)

-- reading a form leads to the loop behind it
abbrev pub LeadsOn : ExprForm → Type 0
LeadsOn f =
    (d k least : ℕ) (rest : List TokenTree) → IsFormedExpr f → 2 ≤ level f → expr_depth f ≤ suc d → expr_depth f ≤ 256 → k + spine f ≡ 256 → least ≤ level f
    → OpEnds (level f + 1) rest → after_mark OpenBracket rest ≡ None
    → joined_at (expression d) least (expr_tokens f ++ rest) ≡ operators (expression d) k least (found_form f rest)

-- the form is read, where nothing behind it could be a part of it
abbrev pub IsRead : ExprForm → Type 0
IsRead f =
    (d least : ℕ) (rest : List TokenTree) → IsFormedExpr f → 1 ≤ level f → expr_depth f ≤ d → expr_depth f ≤ 256 → least ≤ level f → Ends least rest
    → expression d least (expr_tokens f ++ rest) ≡ Some (found_form f rest)

abbrev pub IsOperandRead : ExprForm → Type 0
IsOperandRead f =
    (d : ℕ) (rest : List TokenTree) → IsFormedExpr f → level f ≡ 13 → expr_depth f ≤ suc d → expr_depth f ≤ 256 → after_mark OpenBracket rest ≡ None
    → operand (expression d) (expr_tokens f ++ rest) ≡ Some (found_form f rest)

-- the parts inside braces

abbrev pub trees_of : ExprForm → List ExprTree
trees_of (LastPart a) = expr_of a ∷ []
trees_of (MoreParts a parts) = expr_of a ∷ trees_of parts
trees_of _ = []

abbrev pub count : ExprForm → ℕ
count (LastPart a) = 1
count (MoreParts a parts) = count parts + 1
count _ = 0

some_tokens : (f : ExprForm) → 1 ≤ length (expr_tokens f)
some_tokens (NameForm n) = omega arith
some_tokens (ConstForm size value fits) = omega arith
some_tokens (PartForm n high low) = omega arith
some_tokens (PlaceForm n k) = omega arith
some_tokens (IndexForm n at) = omega arith
some_tokens (ParensForm a) = omega arith
some_tokens (PrefixForm op a) = omega arith
some_tokens (InfixForm op a b) = omega (arith, some_tokens a, length-append (expr_tokens a) (Mark (infix_sign op) ∷ expr_tokens b))
some_tokens (ChoiceForm test a b) =
    omega (arith, some_tokens test, length-append (expr_tokens test) (Mark Question ∷ (expr_tokens a ++ Mark Colon ∷ expr_tokens b)))
some_tokens (BracesForm parts) = omega arith
some_tokens (LastPart a) = some_tokens a
some_tokens (MoreParts a parts) = omega (arith, some_tokens a, length-append (expr_tokens a) (Mark Comma ∷ expr_tokens parts))

count_below : (f : ExprForm) → count f ≤ length (expr_tokens f)
count_below (LastPart a) = some_tokens a
count_below (MoreParts a parts) = omega (arith, some_tokens a, count_below parts, length-append (expr_tokens a) (Mark Comma ∷ expr_tokens parts))
count_below (NameForm n) = omega arith
count_below (ConstForm size value fits) = omega arith
count_below (PartForm n high low) = omega arith
count_below (PlaceForm n k) = omega arith
count_below (IndexForm n at) = omega arith
count_below (ParensForm a) = omega arith
count_below (PrefixForm op a) = omega arith
count_below (InfixForm op a b) = omega arith
count_below (ChoiceForm test a b) = omega arith
count_below (BracesForm parts) = omega arith

pub not_parts : (f : ExprForm) → level f ≡ 0 → 1 ≤ length (trees_of f)
not_parts (LastPart a) h = omega arith
not_parts (MoreParts a parts) h = omega arith
not_parts (InfixForm op a b) h = absurd (omega (arith, h, strength_above op))
not_parts (NameForm n) h = absurd (omega (arith, h))
not_parts (ConstForm size value fits) h = absurd (omega (arith, h))
not_parts (PartForm n high low) h = absurd (omega (arith, h))
not_parts (PlaceForm n k) h = absurd (omega (arith, h))
not_parts (IndexForm n at) h = absurd (omega (arith, h))
not_parts (ParensForm a) h = absurd (omega (arith, h))
not_parts (PrefixForm op a) h = absurd (omega (arith, h))
not_parts (ChoiceForm test a b) h = absurd (omega (arith, h))
not_parts (BracesForm parts) h = absurd (omega (arith, h))

pub concat_more_of : (x : ExprTree) (xs : List ExprTree) → 1 ≤ length xs → concat_behind x xs ≡ concat_more x (concat_of xs)
concat_more_of x [] h = absurd (omega arith)
concat_more_of x (y ∷ ys) h = refl

pub concat_trees : (f : ExprForm) → IsFormedExpr f → level f ≡ 0 → concat_of (trees_of f) ≡ expr_of f
concat_trees (LastPart a) formed h = refl
concat_trees (MoreParts a parts) formed h =
    concat_more_of (expr_of a) (trees_of parts) (not_parts parts formed.1) ∙ ap (concat_more (expr_of a)) (concat_trees parts formed.3 formed.1)
concat_trees (InfixForm op a b) formed h = absurd (omega (arith, h, strength_above op))
concat_trees (NameForm n) formed h = absurd (omega (arith, h))
concat_trees (ConstForm size value fits) formed h = absurd (omega (arith, h))
concat_trees (PartForm n high low) formed h = absurd (omega (arith, h))
concat_trees (PlaceForm n k) formed h = absurd (omega (arith, h))
concat_trees (IndexForm n at) formed h = absurd (omega (arith, h))
concat_trees (ParensForm a) formed h = absurd (omega (arith, h))
concat_trees (PrefixForm op a) formed h = absurd (omega (arith, h))
concat_trees (ChoiceForm test a b) formed h = absurd (omega (arith, h))
concat_trees (BracesForm parts) formed h = absurd (omega (arith, h))

abbrev pub ArePartsRead : ExprForm → Type 0
ArePartsRead p =
    (d k : ℕ) (before : List ExprTree) (deep : ℕ) (rest : List TokenTree) → IsFormedExpr p → level p ≡ 0 → expr_depth p ≤ d → expr_depth p ≤ 256 → count p ≤ k
    → parts (expression d) k (parts_of before deep (expr_tokens p ++ Mark CloseBrace ∷ rest)) ≡ Some
    (parts_of (before ++ trees_of p) (max deep (expr_depth p)) rest)

-- the law of a form, in each place where it may stand
pub record Again (f : ExprForm) : Type 0 where
  pub operand : IsOperandRead f
  pub leads : LeadsOn f
  pub reads : IsRead f
  pub parts : ArePartsRead f

-- from the loop to the whole
is_read : (f : ExprForm) → 2 ≤ level f → LeadsOn f → IsRead f
is_read f strong on zero least rest formed some deep small least_small ends = absurd (omega (arith, spine_below f))
is_read f strong on (suc d) least rest formed some deep small least_small ends =
    ap (λ o. o >>= chosen (expression d) least)
    (on d (256 - spine f) least rest formed strong deep small (omega (arith, spine_below f)) least_small
    (ends_above least (level f + 1) rest (omega arith) ends.operator) ends.bracket
    ∙ stops (expression d) (256 - spine f) least (found_form f rest) (omega (arith, spine_below f)) ends.operator)
    ∙ not_chosen (expression d) least (found_form f rest) ends.question

-- the loop begins behind what is read first
begin : (f : ExprForm) (d k least : ℕ) (rest : List TokenTree) → 256 ≡ k → unary_at (expression d) (expr_tokens f ++ rest) ≡ Some (found_form f rest)
    → joined_at (expression d) least (expr_tokens f ++ rest) ≡ operators (expression d) k least (found_form f rest)
begin f d k least rest e h = ap (λ o. o >>= operators (expression d) 256 least) h ∙ ap (λ k. operators (expression d) k least (found_form f rest)) e

-- an operand
of_operand : (f : ExprForm) → level f ≡ 13 → spine f ≡ 0
    → ((read : Reader) (ts : List TokenTree) → unary_at read (expr_tokens f ++ ts) ≡ operand read (expr_tokens f ++ ts)) → IsOperandRead f → Again f
of_operand f top flat same law =
    let on : LeadsOn f = λ d k least rest formed strong deep small turns least_small ends bracket. begin f d k least rest (omega (arith, flat, turns))
    (same (expression d) rest ∙ law d rest formed top deep small bracket) in
    record {
      operand = law;
      leads = on;
      reads = is_read f (omega (arith, top)) on;
      parts = λ d k before deep rest formed none. absurd (omega (arith, top, none));
    }

-- what is no operand and no part
of_joined : (f : ExprForm) → 2 ≤ level f → level f ≤ 12 → LeadsOn f → Again f
of_joined f low high on = record {
  operand = λ d rest formed top. absurd (omega (arith, top, high));
  leads = on;
  reads = is_read f low on;
  parts = λ d k before deep rest formed none. absurd (omega (arith, low, none));
}

name_again : (n : List ℕ) → IsOperandRead (NameForm n)
name_again n d rest formed top deep small bracket = ap (named (expression d) n rest) bracket

part_again : (n : List ℕ) (high low : NumberForm) → IsOperandRead (PartForm n high low)
part_again n ZeroForm ZeroForm d rest formed top deep small bracket = refl
part_again n ZeroForm (DecimalForm l) d rest formed top deep small bracket = refl
part_again n (DecimalForm h) ZeroForm d rest formed top deep small bracket = refl
part_again n (DecimalForm h) (DecimalForm l) d rest formed top deep small bracket = refl

place_again : (n : List ℕ) (k : NumberForm) → IsOperandRead (PlaceForm n k)
place_again n ZeroForm d rest formed top deep small bracket = refl
place_again n (DecimalForm k) d rest formed top deep small bracket = refl

index_again : (n : List ℕ) (at : ExprForm) → IsRead at → IsOperandRead (IndexForm n at)
index_again n at law d rest formed top deep small bracket =
    ap (λ ts. selected (expression d) n ts (first_number ts)) (append_assoc (expr_tokens at) (Mark CloseBracket ∷ []) rest)
    ∙ ap (selected (expression d) n (expr_tokens at ++ Mark CloseBracket ∷ rest)) (no_number at (Mark CloseBracket ∷ rest))
    ∙ ap (λ o. o >>= indexed n) (law d 1 (Mark CloseBracket ∷ rest) formed.1 formed.0 (omega arith) (omega arith) formed.0
    (record { operator = refl; bracket = refl; question = λ _. refl }))
    ∙ deepened (expr_depth at) (λ k. found (index n (expr_of at)) k rest) (omega arith)

parens_again : (a : ExprForm) → IsRead a → IsOperandRead (ParensForm a)
parens_again a law d rest formed top deep small bracket =
    ap (λ ts. expression d 1 ts >>= closed) (append_assoc (expr_tokens a) (Mark Close ∷ []) rest)
    ∙ ap (λ o. o >>= closed) (law d 1 (Mark Close ∷ rest) formed.1 formed.0 (omega arith) (omega arith) formed.0
    (record { operator = refl; bracket = refl; question = λ _. refl }))
    ∙ deepened (expr_depth a) (λ k. found (expr_of a) k rest) (omega arith)

braces_again : (p : ExprForm) → ArePartsRead p → IsOperandRead (BracesForm p)
braces_again p law d rest formed top deep small bracket =
    ap (λ ts. parts (expression d) (length ts) (parts_of [] 0 ts) >>= braced) (append_assoc (expr_tokens p) (Mark CloseBrace ∷ []) rest)
    ∙ ap (λ o. o >>= braced) (law d (length (expr_tokens p ++ Mark CloseBrace ∷ rest)) [] 0 rest formed.1 formed.0 (omega arith) (omega arith)
    (omega (arith, count_below p, length-append (expr_tokens p) (Mark CloseBrace ∷ rest))))
    ∙ ap (λ n. braced (parts_of (trees_of p) n rest)) (let e : max 0 (expr_depth p) ≡ expr_depth p = omega arith in e)
    ∙ deepened (expr_depth p) (λ k. found (concat_of (trees_of p)) k rest) (omega arith)
    ∙ ap (λ t. Some (found t (expr_depth p + 1) rest)) (concat_trees p formed.1 formed.0)

prefix_start : (op : UnOp) → sign_start (prefix_sign op) ≡ StartPrefix op
prefix_start Not = refl
prefix_start Flip = refl

prefix_again : (op : UnOp) (a : ExprForm) → IsOperandRead a → LeadsOn (PrefixForm op a)
prefix_again op a law d k least rest formed strong deep small turns least_small ends bracket =
    begin (PrefixForm op a) d k least rest (omega arith)
    (ap (λ s. unary_from (expression d) s (expr_tokens a ++ rest)) (prefix_start op)
    ∙ ap (λ o. o >>= prefixed op) (law d rest formed.1 formed.0 (omega arith) (omega arith) bracket)
    ∙ deepened (expr_depth a) (λ k. found (unary op (expr_of a)) k rest) (omega arith))

infix_again : (op : BinOp) (a b : ExprForm) → LeadsOn a → IsRead b → LeadsOn (InfixForm op a b)
infix_again op a b left right d k least rest formed strong deep small turns least_small ends bracket =
    let behind : List TokenTree = expr_tokens b ++ rest in
    ap (joined_at (expression d) least) (append_assoc (expr_tokens a) (Mark (infix_sign op) ∷ expr_tokens b) rest)
    ∙ left d (suc k) least (Mark (infix_sign op) ∷ behind) formed.2 (omega (arith, formed.0, strong)) (omega arith) (omega arith) (omega arith)
    (omega (arith, formed.0)) (infix_not_here (level a + 1) op behind (omega (arith, formed.0))) (infix_no_bracket op behind)
    ∙ ap (after_operator (expression d) (operators (expression d) k least) (found_form a (Mark (infix_sign op) ∷ behind)))
    (infix_here least op behind least_small)
    ∙ ap (λ o. o >>= joined op (found_form a (Mark (infix_sign op) ∷ behind)) >>= operators (expression d) k least)
    (right d (strength op + 1) rest formed.3 (omega (arith, formed.1)) (omega arith) (omega arith) (omega (arith, formed.1))
    (record { operator = ends; bracket = bracket; question = λ e. absurd (too_strong op e) }))
    ∙ ap (λ o. o >>= operators (expression d) k least) (deepened (max (expr_depth a) (expr_depth b)) (λ k. found (binary op (expr_of a) (expr_of b)) k rest)
    (omega arith))
  where
    too_strong : (op : BinOp) → nat_le (strength op + 1) 1 ≡ true → ⊥
    too_strong op e = let h = leb-true (strength op + 1) 1 e in omega (arith, strength_above op)

choice_again : (test a b : ExprForm) → LeadsOn test → IsRead a → IsRead b → IsRead (ChoiceForm test a b)
choice_again test a b on left right zero least rest formed some deep small least_small ends = absurd (omega arith)
choice_again test a b on left right (suc d) least rest formed some deep small least_small ends =
    let second : List TokenTree = expr_tokens b ++ rest in
    let first : List TokenTree = expr_tokens a ++ Mark Colon ∷ second in
    let whole : expr_tokens (ChoiceForm test a b) ++ rest ≡ expr_tokens test ++ Mark Question ∷ first =
    append_assoc (expr_tokens test) (Mark Question ∷ (expr_tokens a ++ Mark Colon ∷ expr_tokens b)) rest
    ∙ ap (λ ts. expr_tokens test ++ Mark Question ∷ ts) (append_assoc (expr_tokens a) (Mark Colon ∷ expr_tokens b) rest) in
    let x : Found = found_form test (Mark Question ∷ first) in
    ap (expression (suc d) least) whole
    ∙ ap (λ o. o >>= chosen (expression d) least)
    (on d (256 - spine test) least (Mark Question ∷ first) formed.3 formed.0 (omega arith) (omega arith) (omega (arith, spine_below test))
    (omega (arith, formed.0, least_small)) refl refl
    ∙ stops (expression d) (256 - spine test) least x (omega (arith, spine_below test)) refl)
    ∙ cond-true _ _ _ (weak least least_small)
    ∙ ap (λ o. o >>= λ y. after_mark Colon y.rest >>= λ us. expression d 1 us >>= chosen_of x y)
    (left d 1 (Mark Colon ∷ second) formed.4 formed.1 (omega arith) (omega arith) formed.1
    (record { operator = refl; bracket = refl; question = λ _. refl }))
    ∙ ap (λ o. o >>= chosen_of x (found_form a (Mark Colon ∷ second)))
    (right d 1 rest formed.5 formed.2 (omega arith) (omega arith) formed.2
    (record {
      operator = ends_above least 1 rest least_small ends.operator;
      bracket = ends.bracket;
      question = λ _. ends.question (weak least least_small);
    }))
    ∙ deepened (max (expr_depth test) (max (expr_depth a) (expr_depth b))) (λ k. found (choice (expr_of test) (expr_of a) (expr_of b)) k rest) (omega arith)
  where
    weak : (least : ℕ) → least ≤ 1 → nat_le least 1 ≡ true
    weak least h = le-leb least 1 h

last_again : (a : ExprForm) → IsRead a → ArePartsRead (LastPart a)
last_again a law d zero before deep rest formed none nested small enough = absurd (omega arith)
last_again a law d (suc k) before deep rest formed none nested small enough =
    ap (λ o. o >>= λ x. more_parts (parts (expression d) k) (with_part (parts_of before deep (expr_tokens a ++ Mark CloseBrace ∷ rest)) x))
    (law d 1 (Mark CloseBrace ∷ rest) formed.1 formed.0 nested small formed.0 (record { operator = refl; bracket = refl; question = λ _. refl }))

more_again : (a p : ExprForm) → IsRead a → ArePartsRead p → ArePartsRead (MoreParts a p)
more_again a p law more d zero before deep rest formed none nested small enough = absurd (omega arith)
more_again a p law more d (suc k) before deep rest formed none nested small enough =
    let behind : List TokenTree = expr_tokens p ++ Mark CloseBrace ∷ rest in
    ap (λ ts. parts (expression d) (suc k) (parts_of before deep ts)) (append_assoc (expr_tokens a) (Mark Comma ∷ expr_tokens p) (Mark CloseBrace ∷ rest))
    ∙ ap (λ o. o >>= λ x. more_parts (parts (expression d) k) (with_part (parts_of before deep (expr_tokens a ++ Mark Comma ∷ behind)) x))
    (law d 1 (Mark Comma ∷ behind) formed.2 formed.0 (omega arith) (omega arith) formed.0 (record { operator = refl; bracket = refl; question = λ _. refl }))
    ∙ more d k (before ++ expr_of a ∷ []) (max deep (expr_depth a)) rest formed.3 formed.1 (omega arith) (omega arith) (omega arith)
    ∙ ap (λ ts. Some (parts_of ts (max (max deep (expr_depth a)) (expr_depth p)) rest)) (append_assoc before (expr_of a ∷ []) (trees_of p))
    ∙ ap (λ n. Some (parts_of (before ++ expr_of a ∷ trees_of p) n rest))
    (let e : max (max deep (expr_depth a)) (expr_depth p) ≡ max deep (max (expr_depth a) (expr_depth p)) = omega arith in e)

of_parts : (f : ExprForm) → level f ≡ 0 → ArePartsRead f → Again f
of_parts f none law = record {
  operand = λ d rest formed top. absurd (omega (arith, top, none));
  leads = λ d k least rest formed strong. absurd (omega (arith, strong, none));
  reads = λ d least rest formed some. absurd (omega (arith, some, none));
  parts = law;
}

pub again : (f : ExprForm) → Again f
again (NameForm n) = of_operand (NameForm n) refl refl (λ read ts. refl) (name_again n)
again (ConstForm size value fits) = of_operand (ConstForm size value fits) refl refl (λ read ts. refl) (λ d rest formed top deep small bracket. refl)
again (PartForm n high low) = of_operand (PartForm n high low) refl refl (λ read ts. refl) (part_again n high low)
again (PlaceForm n k) = of_operand (PlaceForm n k) refl refl (λ read ts. refl) (place_again n k)
again (IndexForm n at) = of_operand (IndexForm n at) refl refl (λ read ts. refl) (index_again n at (again at).reads)
again (ParensForm a) = of_operand (ParensForm a) refl refl (λ read ts. refl) (parens_again a (again a).reads)
again (BracesForm p) = of_operand (BracesForm p) refl refl (λ read ts. refl) (braces_again p (again p).parts)
again (PrefixForm op a) = of_joined (PrefixForm op a) (omega arith) (omega arith) (prefix_again op a (again a).operand)
again (InfixForm op a b) =
    of_joined (InfixForm op a b) (strength_above op) (omega (arith, strength_below op)) (infix_again op a b (again a).leads (again b).reads)
again (ChoiceForm test a b) = record {
  operand = λ d rest formed top. absurd (omega (arith, top));
  leads = λ d k least rest formed strong. absurd (omega (arith, strong));
  reads = choice_again test a b (again test).leads (again a).reads (again b).reads;
  parts = λ d k before deep rest formed none. absurd (omega (arith, none));
}
again (LastPart a) = of_parts (LastPart a) refl (last_again a (again a).reads)
again (MoreParts a p) = of_parts (MoreParts a p) refl (more_again a p (again a).reads (again p).parts)

pub read_again : (f : ExprForm) → IsRead f
read_again f = (again f).reads

pub whole_again : (f : ExprForm) (rest : List TokenTree) → IsFormedExpr f → 1 ≤ level f → expr_depth f ≤ 256 → Ends 1 rest
    → whole_expression (expr_tokens f ++ rest) ≡ Some (found_form f rest)
unfolding whole_expression
whole_again f rest formed some small ends = read_again f 256 1 rest formed some small small some ends
