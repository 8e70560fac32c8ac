-- Expressions as the writer writes them.
use Rattle.std.proofs.Common.{◌≡◌, ℕ, ◌<◌, ◌≤◌, ◌^◌, List, [], ◌∷◌, ◌++◌, Bool, true, Option, Some, None, refl, sym, ap, ◌∙◌, subst, append_assoc, zero, suc}
use Rattle.std.specs.Prelude.{IsSome, codes, decimal, not, option_map}
use Rattle.std.proofs.lemmas.Bool.{both_ways}
use Rattle.ae_vtoken.specs.declared.token.Sign.{Sign}
use Rattle.ae_vtoken.specs.declared.token.Sign.TheVariants.{OpenBracket, CloseBracket, Colon, Question, Tilde}
use Rattle.ae_vmodule.specs.declared.module.UnOp.{UnOp}
use Rattle.ae_vmodule.specs.declared.module.UnOp.TheVariants.{Not, Flip}
use Rattle.ae_vmodule.specs.declared.module.BinOp.{BinOp}
use Rattle.ae_vmodule.specs.declared.module.BinOp.TheVariants.{Mul, Add, Sub, Shl, Shr, Lt, Le, Gt, Ge, Eq, Ne, And, Xor, Or, Both, Either}
use Rattle.ae_vtoken.specs.Tables.{signs}
use Rattle.ae_vtoken.specs.Tokens.{TokenTree, Name, Mark, Sized, look_up, is_word_start, token_of, IsLongest, AreTokens}
use Rattle.ae_vmodule.specs.ModuleTree.{ExprTree, name, constant, place, part, index, unary, binary, choice, concat_one, concat_more}
use Rattle.ae_vread.specs.ExprForms.{number_value, ExprForm, NameForm, ConstForm, PartForm, IndexForm, PrefixForm, InfixForm, ChoiceForm, LastPart, MoreParts, infix_sign, expr_tokens, expr_of}
use Rattle.ae_vtoken.proofs.TokenLemmas.{is_lone, spaced, mark, blank_then, token_then}
use Rattle.ae_verilog.specs.Text.{prefix_text, sign_text, expr_text}
use Rattle.ae_spelled.proofs.Pieces.{IsNameText, number_form, decimal_token, sized_token, IsClean, clean_both, clean_then, decimal_clean}
use Rattle.ae_vtoken.proofs.MarkLemmas.{of_key}

-- the form without parentheses
abbrev pub expr_form : ExprTree → ExprForm
expr_form (name n) = NameForm n
expr_form (constant size value fits) = ConstForm size value fits
expr_form (place n) = NameForm []
expr_form (part n high low) = PartForm n (number_form high) (number_form low)
expr_form (index n at) = IndexForm n (expr_form at)
expr_form (unary op a) = PrefixForm op (expr_form a)
expr_form (binary op a b) = InfixForm op (expr_form a) (expr_form b)
expr_form (choice test a b) = ChoiceForm (expr_form test) (expr_form a) (expr_form b)
expr_form (concat_one a) = LastPart (expr_form a)
expr_form (concat_more a rest) = MoreParts (expr_form a) (expr_form rest)

pub record IsConstant (size value : ℕ) (fits : Bool) : Type 0 where
  pub positive : 0 < size
  pub small : size ≤ 64
  pub below : value < 2 ^ size
  pub wide : value < 2 ^ 64
  pub right : fits ≡ true

-- a name
abbrev pub IsName : ExprTree → Type 0
IsName (name n) = IsNameText n
IsName (constant size value fits) = ⊥
IsName (place n) = ⊥
IsName (part n high low) = ⊥
IsName (index n at) = ⊥
IsName (unary op a) = ⊥
IsName (binary op a b) = ⊥
IsName (choice test a b) = ⊥
IsName (concat_one a) = ⊥
IsName (concat_more a rest) = ⊥

abbrev pub IsFlip : UnOp → Type 0
IsFlip Flip = Unit {0}
IsFlip Not = ⊥

-- names and numbers are right, and there is neither a concatenation nor a place
abbrev pub IsWritable : ExprTree → Type 0
IsWritable (name n) = IsNameText n
IsWritable (constant size value fits) = IsConstant size value fits
IsWritable (place n) = ⊥
IsWritable (part n high low) = IsNameText n × (high < 2 ^ 32) × (low < 2 ^ 32)
IsWritable (index n at) = IsNameText n × IsWritable at
IsWritable (unary op a) = IsFlip op × IsName a
IsWritable (binary op a b) = IsWritable a × IsWritable b
IsWritable (choice test a b) = IsWritable test × IsWritable a × IsWritable b
IsWritable (concat_one a) = ⊥
IsWritable (concat_more a rest) = ⊥

pub sign_token : (op : BinOp) → token_of (sign_text op) ≡ Some (Mark (infix_sign op))
unfolding token_of signs
sign_token Mul = refl
sign_token Add = refl
sign_token Sub = refl
sign_token Shl = refl
sign_token Shr = refl
sign_token Lt = refl
sign_token Le = refl
sign_token Gt = refl
sign_token Ge = refl
sign_token Eq = refl
sign_token Ne = refl
sign_token And = refl
sign_token Xor = refl
sign_token Or = refl
sign_token Both = refl
sign_token Either = refl

pub open_bracket_token : token_of (codes "[") ≡ Some (Mark OpenBracket)
unfolding token_of signs
open_bracket_token = refl

pub close_bracket_token : token_of (codes "]") ≡ Some (Mark CloseBracket)
unfolding token_of signs
close_bracket_token = refl

pub colon_token : token_of (codes ":") ≡ Some (Mark Colon)
unfolding token_of signs
colon_token = refl

question_token : token_of (codes "?") ≡ Some (Mark Question)
unfolding token_of signs
question_token = refl

tilde_token : token_of (codes "~") ≡ Some (Mark Tilde)
unfolding token_of signs
tilde_token = refl

-- no sign has a letter in second place

abbrev no_letter_second : List ℕ → Bool
no_letter_second [] = true
no_letter_second (b ∷ []) = true
no_letter_second (b ∷ c ∷ bs) = not (is_word_start c)

sign_second : (bs : List ℕ) (s : Sign) → look_up bs signs ≡ Some s → no_letter_second bs ≡ true
unfolding signs
sign_second bs s h = of_key no_letter_second bs signs s h refl

tilde_second : (c : ℕ) (bs : List ℕ) → is_word_start c ≡ true → token_of (126 ∷ c ∷ bs) ≡ None
unfolding token_of
tilde_second c bs letter = elim (look_up (126 ∷ c ∷ bs) signs) as (λ o. look_up (126 ∷ c ∷ bs) signs ≡ o → option_map Mark o ≡ None) [
  | None ↦ λ e. refl
  | Some s ↦ λ e. absurd (both_ways _ (ap not letter) (sign_second (126 ∷ c ∷ bs) s e))
] refl

tilde_longest : (c : ℕ) (rest : List ℕ) → is_word_start c ≡ true → IsLongest (126 ∷ []) (c ∷ rest)
tilde_longest c rest letter [] after e some = refl
tilde_longest c rest letter (d ∷ more) after e some =
    let same : c ≡ d = cc in
    absurd (none_some _ (tilde_second d more (ap is_word_start (sym same) ∙ letter)) some)
  where
    none_some : {X : Type 0} (o : Option X) → o ≡ None → IsSome o → ⊥
    none_some None e h = cc
    none_some (Some x) e h = cc

tilde_then : (n : List ℕ) (c : ℕ) (rest : List ℕ) (ts : List TokenTree) → IsNameText n → is_lone c ≡ true → AreTokens (c ∷ rest) ts
    → AreTokens (codes "~" ++ (n ++ c ∷ rest)) (Mark Tilde ∷ Name n ∷ ts)
tilde_then n c rest ts named lone h =
    let later = spaced n c rest (Name n) ts named.token lone h in
    token_then 126 [] (n ++ c ∷ rest) (Mark Tilde) (Name n ∷ ts) tilde_token
    (subst (λ l. IsLongest (126 ∷ []) (l ++ c ∷ rest)) (sym named.whole) (tilde_longest named.first (named.more ++ c ∷ rest) named.letter)) later

-- an expression before a lone byte
pub expr_piece : (e : ExprTree) (c : ℕ) (rest : List ℕ) (ts : List TokenTree) → IsWritable e → is_lone c ≡ true → AreTokens (c ∷ rest) ts
    → AreTokens (expr_text e ++ c ∷ rest) (expr_tokens (expr_form e) ++ ts)
expr_piece (name n) c rest ts w lone h = spaced n c rest (Name n) ts w.token lone h
expr_piece (constant size value fits) c rest ts w lone h =
    spaced (decimal size ++ (codes "'d" ++ decimal value)) c rest _ ts
    (sized_token size value w.positive w.small w.below w.wide ∙ ap (λ f. Some (Sized size value f)) (sym w.right)) lone h
expr_piece (place n) c rest ts w lone h = absurd w
expr_piece (part n high low) c rest ts w lone h = simp append_assoc (
    spaced n 91 _ _ _ w.0.token refl (mark 91 _ _ _ open_bracket_token refl (
    spaced (decimal high) 58 _ _ _ (decimal_token high w.1) refl (mark 58 _ _ _ colon_token refl (
    spaced (decimal low) 93 _ _ _ (decimal_token low w.2) refl (mark 93 _ _ _ close_bracket_token refl h))))))
expr_piece (index n at) c rest ts w lone h = simp append_assoc (
    spaced n 91 _ _ _ w.0.token refl (mark 91 _ _ _ open_bracket_token refl (
    expr_piece at 93 _ _ w.1 refl (mark 93 _ _ _ close_bracket_token refl h))))
expr_piece (unary Flip (name n)) c rest ts w lone h = tilde_then n c rest ts w.1 lone h
expr_piece (unary Flip (constant size value fits)) c rest ts w lone h = absurd w.1
expr_piece (unary Flip (place n)) c rest ts w lone h = absurd w.1
expr_piece (unary Flip (part n high low)) c rest ts w lone h = absurd w.1
expr_piece (unary Flip (index n at)) c rest ts w lone h = absurd w.1
expr_piece (unary Flip (unary op a)) c rest ts w lone h = absurd w.1
expr_piece (unary Flip (binary op a b)) c rest ts w lone h = absurd w.1
expr_piece (unary Flip (choice test a b)) c rest ts w lone h = absurd w.1
expr_piece (unary Flip (concat_one a)) c rest ts w lone h = absurd w.1
expr_piece (unary Flip (concat_more a more)) c rest ts w lone h = absurd w.1
expr_piece (unary Not a) c rest ts w lone h = absurd w.0
expr_piece (binary op a b) c rest ts w lone h = simp append_assoc (
    expr_piece a 32 _ _ w.0 refl (blank_then 32 _ _ refl (spaced (sign_text op) 32 _ _ _ (sign_token op) refl (
    blank_then 32 _ _ refl (expr_piece b c rest ts w.1 lone h)))))
expr_piece (choice test a b) c rest ts w lone h = simp append_assoc (
    expr_piece test 32 _ _ w.0 refl (blank_then 32 _ _ refl (mark 63 _ _ _ question_token refl (
    blank_then 32 _ _ refl (expr_piece a 32 _ _ w.1 refl (blank_then 32 _ _ refl (mark 58 _ _ _ colon_token refl (
    blank_then 32 _ _ refl (expr_piece b c rest ts w.2 lone h)))))))))
expr_piece (concat_one a) c rest ts w lone h = absurd w
expr_piece (concat_more a more) c rest ts w lone h = absurd w

-- the form stands for the expression
pub number_back : (n : ℕ) → number_value (number_form n) ≡ n
number_back zero = refl
number_back (suc n) = refl

name_back : (e : ExprTree) → IsName e → expr_of (expr_form e) ≡ e
name_back (name n) h = refl
name_back (constant size value fits) h = absurd h
name_back (place n) h = absurd h
name_back (part n high low) h = absurd h
name_back (index n at) h = absurd h
name_back (unary op a) h = absurd h
name_back (binary op a b) h = absurd h
name_back (choice test a b) h = absurd h
name_back (concat_one a) h = absurd h
name_back (concat_more a rest) h = absurd h

pub expr_back : (e : ExprTree) → IsWritable e → expr_of (expr_form e) ≡ e
expr_back (name n) w = refl
expr_back (constant size value fits) w = refl
expr_back (place n) w = absurd w
expr_back (part n high low) w = ap (λ h. part n h (number_value (number_form low))) (number_back high) ∙ ap (part n high) (number_back low)
expr_back (index n at) w = ap (index n) (expr_back at w.1)
expr_back (unary op a) w = ap (unary op) (name_back a w.1)
expr_back (binary op a b) w = ap (λ x. binary op x (expr_of (expr_form b))) (expr_back a w.0) ∙ ap (binary op a) (expr_back b w.1)
expr_back (choice test a b) w =
    ap (λ x. choice x (expr_of (expr_form a)) (expr_of (expr_form b))) (expr_back test w.0)
    ∙ ap (λ x. choice test x (expr_of (expr_form b))) (expr_back a w.1) ∙ ap (choice test a) (expr_back b w.2)
expr_back (concat_one a) w = absurd w
expr_back (concat_more a rest) w = absurd w

-- no byte of it is % or $
sign_clean : (op : BinOp) → IsClean (sign_text op)
sign_clean Mul = record { all = refl }
sign_clean Add = record { all = refl }
sign_clean Sub = record { all = refl }
sign_clean Shl = record { all = refl }
sign_clean Shr = record { all = refl }
sign_clean Lt = record { all = refl }
sign_clean Le = record { all = refl }
sign_clean Gt = record { all = refl }
sign_clean Ge = record { all = refl }
sign_clean Eq = record { all = refl }
sign_clean Ne = record { all = refl }
sign_clean And = record { all = refl }
sign_clean Xor = record { all = refl }
sign_clean Or = record { all = refl }
sign_clean Both = record { all = refl }
sign_clean Either = record { all = refl }

name_clean : (e : ExprTree) → IsName e → IsClean (expr_text e)
name_clean (name n) h = h.clean
name_clean (constant size value fits) h = absurd h
name_clean (place n) h = absurd h
name_clean (part n high low) h = absurd h
name_clean (index n at) h = absurd h
name_clean (unary op a) h = absurd h
name_clean (binary op a b) h = absurd h
name_clean (choice test a b) h = absurd h
name_clean (concat_one a) h = absurd h
name_clean (concat_more a rest) h = absurd h

flip_clean : (op : UnOp) (text : List ℕ) → IsFlip op → IsClean text → IsClean (prefix_text op ++ text)
flip_clean Flip text h all = clean_then (codes "~") text refl all
flip_clean Not text h all = absurd h

pub expr_clean : (e : ExprTree) → IsWritable e → IsClean (expr_text e)
expr_clean (name n) w = w.clean
expr_clean (constant size value fits) w =
    clean_both (decimal size) (codes "'d" ++ decimal value) (decimal_clean size)
    (clean_then (codes "'d") (decimal value) refl (decimal_clean value))
expr_clean (place n) w = absurd w
expr_clean (part n high low) w =
    clean_both n _ w.0.clean (clean_then (codes "[") _ refl (clean_both (decimal high) _ (decimal_clean high)
    (clean_then (codes ":") _ refl (clean_both (decimal low) (codes "]") (decimal_clean low) (record { all = refl })))))
expr_clean (index n at) w =
    clean_both n _ w.0.clean (clean_then (codes "[") _ refl (clean_both (expr_text at) (codes "]") (expr_clean at w.1) (record { all = refl })))
expr_clean (unary op a) w = flip_clean op (expr_text a) w.0 (name_clean a w.1)
expr_clean (binary op a b) w =
    clean_both (expr_text a) _ (expr_clean a w.0) (clean_then (codes " ") _ refl (clean_both (sign_text op) _ (sign_clean op)
    (clean_then (codes " ") (expr_text b) refl (expr_clean b w.1))))
expr_clean (choice test a b) w =
    clean_both (expr_text test) _ (expr_clean test w.0) (clean_then (codes " ? ") _ refl (clean_both (expr_text a) _ (expr_clean a w.1)
    (clean_then (codes " : ") (expr_text b) refl (expr_clean b w.2))))
expr_clean (concat_one a) w = absurd w
expr_clean (concat_more a rest) w = absurd w
