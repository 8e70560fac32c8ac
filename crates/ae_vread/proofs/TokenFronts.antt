-- Which token stood in front.
use Rattle.std.proofs.Common.{◌≡◌, ℕ, List, [], ◌∷◌, true, false, Option, Some, None, refl, sym, ap, ◌∙◌, get_or}
use Rattle.std.specs.Prelude.{nat_eq}
use Rattle.std.proofs.lemmas.Bool.{eqb-true}
use Rattle.std.proofs.lemmas.Option.{cond_some}
use Rattle.ae_vtoken.specs.Tokens.{TokenTree, Name, Word, Unused, Zero, Decimal, Sized, Mark}
use Rattle.ae_vread.specs.ExprForms.{NumberForm, ZeroForm, DecimalForm, number_token, number_value}
use Rattle.ae_vread.specs.TokenTests.{◌>>=◌, sign_number, key_number, is_mark, is_word, after_mark, after_word, first_name, first_number}
use Rattle.ae_vtoken.specs.declared.token.Key.{Key}
use Rattle.ae_vtoken.specs.declared.token.Key.TheVariants as k
use Rattle.ae_vtoken.specs.declared.token.Sign.{Sign}
use Rattle.ae_vtoken.specs.declared.token.Sign.TheVariants as s

-- a step that gave a value had one before it
pub bind_some : {A B : Type 0} (o : Option A) (f : A → Option B) (y : B) → (o >>= f) ≡ Some y → (x : A) × (o ≡ Some x) × (f x ≡ Some y)
bind_some None f y h = absurd (let e : None ≡ Some y = h in cc)
bind_some (Some x) f y h = (x, refl, h)

all_signs : List Sign
all_signs =
    s.Open ∷ s.Close ∷ s.OpenBracket ∷ s.CloseBracket ∷ s.OpenBrace ∷ s.CloseBrace ∷ s.Comma ∷ s.Semicolon ∷ s.Colon ∷ s.Question ∷ s.At ∷ s.Equals ∷ s.Plus
    ∷ s.Minus ∷ s.Star ∷ s.Amp ∷ s.Bar ∷ s.Caret ∷ s.Tilde ∷ s.Bang ∷ s.Less ∷ s.Greater ∷ s.AtMost ∷ s.AtLeast ∷ s.Same ∷ s.Differs ∷ s.BothAmp ∷ s.BothBar
    ∷ s.ShiftLeft ∷ s.ShiftRight ∷ s.XnorLeft ∷ s.XnorRight ∷ []

all_keys : List Key
all_keys = k.Module ∷ k.EndModule ∷ k.Input ∷ k.Output ∷ k.Wire ∷ k.Reg ∷ k.Assign ∷ k.Always ∷ k.Posedge ∷ k.If ∷ k.Else ∷ k.Begin ∷ k.End ∷ []

sign_back : (a : Sign) → get_or all_signs (sign_number a) s.Open ≡ a
unfolding all_signs
sign_back a = elim a as (λ a. get_or all_signs (sign_number a) s.Open ≡ a) [
  | s.Open ↦ refl
  | s.Close ↦ refl
  | s.OpenBracket ↦ refl
  | s.CloseBracket ↦ refl
  | s.OpenBrace ↦ refl
  | s.CloseBrace ↦ refl
  | s.Comma ↦ refl
  | s.Semicolon ↦ refl
  | s.Colon ↦ refl
  | s.Question ↦ refl
  | s.At ↦ refl
  | s.Equals ↦ refl
  | s.Plus ↦ refl
  | s.Minus ↦ refl
  | s.Star ↦ refl
  | s.Amp ↦ refl
  | s.Bar ↦ refl
  | s.Caret ↦ refl
  | s.Tilde ↦ refl
  | s.Bang ↦ refl
  | s.Less ↦ refl
  | s.Greater ↦ refl
  | s.AtMost ↦ refl
  | s.AtLeast ↦ refl
  | s.Same ↦ refl
  | s.Differs ↦ refl
  | s.BothAmp ↦ refl
  | s.BothBar ↦ refl
  | s.ShiftLeft ↦ refl
  | s.ShiftRight ↦ refl
  | s.XnorLeft ↦ refl
  | s.XnorRight ↦ refl
]

key_back : (a : Key) → get_or all_keys (key_number a) k.If ≡ a
unfolding all_keys
key_back a = elim a as (λ a. get_or all_keys (key_number a) k.If ≡ a) [
  | k.Module ↦ refl
  | k.EndModule ↦ refl
  | k.Input ↦ refl
  | k.Output ↦ refl
  | k.Wire ↦ refl
  | k.Reg ↦ refl
  | k.Assign ↦ refl
  | k.Always ↦ refl
  | k.Posedge ↦ refl
  | k.If ↦ refl
  | k.Else ↦ refl
  | k.Begin ↦ refl
  | k.End ↦ refl
]

pub same_sign : (a b : Sign) → nat_eq (sign_number a) (sign_number b) ≡ true → b ≡ a
same_sign a b h = sym (sign_back b) ∙ ap (λ n. get_or all_signs n s.Open) (sym (eqb-true (sign_number a) (sign_number b) h)) ∙ sign_back a

pub same_key : (a b : Key) → nat_eq (key_number a) (key_number b) ≡ true → b ≡ a
same_key a b h = sym (key_back b) ∙ ap (λ n. get_or all_keys n k.If) (sym (eqb-true (key_number a) (key_number b) h)) ∙ key_back a

mark_is : (s : Sign) (t : TokenTree) → is_mark s t ≡ true → t ≡ Mark s
mark_is s (Mark t) h = ap Mark (same_sign s t h)
mark_is s (Name n) h = absurd (let e : false ≡ true = h in cc)
mark_is s (Word k) h = absurd (let e : false ≡ true = h in cc)
mark_is s Unused h = absurd (let e : false ≡ true = h in cc)
mark_is s Zero h = absurd (let e : false ≡ true = h in cc)
mark_is s (Decimal n) h = absurd (let e : false ≡ true = h in cc)
mark_is s (Sized size value fits) h = absurd (let e : false ≡ true = h in cc)

word_is : (k : Key) (t : TokenTree) → is_word k t ≡ true → t ≡ Word k
word_is k (Word l) h = ap Word (same_key k l h)
word_is k (Name n) h = absurd (let e : false ≡ true = h in cc)
word_is k (Mark s) h = absurd (let e : false ≡ true = h in cc)
word_is k Unused h = absurd (let e : false ≡ true = h in cc)
word_is k Zero h = absurd (let e : false ≡ true = h in cc)
word_is k (Decimal n) h = absurd (let e : false ≡ true = h in cc)
word_is k (Sized size value fits) h = absurd (let e : false ≡ true = h in cc)

pub mark_was : (s : Sign) (ts us : List TokenTree) → after_mark s ts ≡ Some us → ts ≡ Mark s ∷ us
mark_was s [] us h = absurd (let e : None ≡ Some us = h in cc)
mark_was s (t ∷ ts) us h = let parts = cond_some _ _ _ h in λ i. mark_is s t parts.0 i ∷ parts.1 i

pub word_was : (k : Key) (ts us : List TokenTree) → after_word k ts ≡ Some us → ts ≡ Word k ∷ us
word_was k [] us h = absurd (let e : None ≡ Some us = h in cc)
word_was k (t ∷ ts) us h = let parts = cond_some _ _ _ h in λ i. word_is k t parts.0 i ∷ parts.1 i

pub name_was : (ts : List TokenTree) (x : List ℕ × List TokenTree) → first_name ts ≡ Some x → ts ≡ Name x.0 ∷ x.1
name_was [] x h = absurd (let e : None ≡ Some x = h in cc)
name_was (Name n ∷ ts) x h = let e : (n, ts) ≡ x = let e' : Some (n, ts) ≡ Some x = h in cc in λ i. Name (e i).0 ∷ (e i).1
name_was (Word k ∷ ts) x h = absurd (let e : None ≡ Some x = h in cc)
name_was (Mark s ∷ ts) x h = absurd (let e : None ≡ Some x = h in cc)
name_was (Unused ∷ ts) x h = absurd (let e : None ≡ Some x = h in cc)
name_was (Zero ∷ ts) x h = absurd (let e : None ≡ Some x = h in cc)
name_was (Decimal n ∷ ts) x h = absurd (let e : None ≡ Some x = h in cc)
name_was (Sized size value fits ∷ ts) x h = absurd (let e : None ≡ Some x = h in cc)

-- a number in front, as a form
pub record IsNumber (ts : List TokenTree) (x : ℕ × List TokenTree) : Type 0 where
  pub form : NumberForm
  pub value : number_value form ≡ x.0
  pub whole : ts ≡ number_token form ∷ x.1

pub number_was : (ts : List TokenTree) (x : ℕ × List TokenTree) → first_number ts ≡ Some x → IsNumber ts x
number_was [] x h = absurd (let e : None ≡ Some x = h in cc)
number_was (Zero ∷ ts) x h =
    let e : (0, ts) ≡ x = let e' : Some (0, ts) ≡ Some x = h in cc in
    record { form = ZeroForm; value = ap (λ (p : ℕ × List TokenTree). p.0) e; whole = λ i. Zero ∷ (e i).1 }
number_was (Decimal n ∷ ts) x h =
    let e : (n, ts) ≡ x = let e' : Some (n, ts) ≡ Some x = h in cc in
    record { form = DecimalForm n; value = ap (λ (p : ℕ × List TokenTree). p.0) e; whole = λ i. Decimal n ∷ (e i).1 }
number_was (Name n ∷ ts) x h = absurd (let e : None ≡ Some x = h in cc)
number_was (Word k ∷ ts) x h = absurd (let e : None ≡ Some x = h in cc)
number_was (Mark s ∷ ts) x h = absurd (let e : None ≡ Some x = h in cc)
number_was (Unused ∷ ts) x h = absurd (let e : None ≡ Some x = h in cc)
number_was (Sized size value fits ∷ ts) x h = absurd (let e : None ≡ Some x = h in cc)
