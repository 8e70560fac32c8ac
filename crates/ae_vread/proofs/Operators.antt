-- Operators in front of tokens.
use Rattle.std.proofs.Common.{◌≡◌, ℕ, ◌<◌, ◌≤◌, List, [], ◌∷◌, Some, None, refl, sym, ap, ◌∙◌, arith, lit≤, inl, inr}
use Rattle.std.specs.Prelude.{nat_le}
use Rattle.std.proofs.lemmas.Bool.{le-leb, lt-leb, cond-true, cond-false, leb-false, cases_Bool}
use Rattle.ae_vtoken.specs.Tokens.{TokenTree, Mark}
use Rattle.ae_vtoken.specs.declared.token.Sign.TheVariants.{OpenBracket}
use Rattle.ae_vmodule.specs.declared.module.BinOp.{BinOp}
use Rattle.ae_vmodule.specs.declared.module.BinOp.TheVariants.{Mul, Add, Sub, Shl, Shr, Lt, Le, Gt, Ge, Eq, Ne, And, Xor, Or, Both, Either}
use Rattle.ae_vread.specs.ExprForms.{infix_sign, strength}
use Rattle.ae_vread.specs.TokenTests.{after_mark}
use Rattle.ae_vread.specs.Reading.{infix_of, sign_infix, infix_at, strong_infix}

-- no operator that strong stands in front
abbrev pub OpEnds : ℕ → List TokenTree → Type 0
OpEnds least ts = infix_at least ts ≡ None

infix_again : (op : BinOp) → sign_infix (infix_sign op) ≡ Some op
infix_again op = elim op as (λ op. sign_infix (infix_sign op) ≡ Some op) [
  | Mul ↦ refl
  | Add ↦ refl
  | Sub ↦ refl
  | Shl ↦ refl
  | Shr ↦ refl
  | Lt ↦ refl
  | Le ↦ refl
  | Gt ↦ refl
  | Ge ↦ refl
  | Eq ↦ refl
  | Ne ↦ refl
  | And ↦ refl
  | Xor ↦ refl
  | Or ↦ refl
  | Both ↦ refl
  | Either ↦ refl
]

pub strength_below : (op : BinOp) → strength op ≤ 11
strength_below op = elim op as (λ op. strength op ≤ 11) [
  | Mul ↦ lit≤ tt
  | Add ↦ lit≤ tt
  | Sub ↦ lit≤ tt
  | Shl ↦ lit≤ tt
  | Shr ↦ lit≤ tt
  | Lt ↦ lit≤ tt
  | Le ↦ lit≤ tt
  | Gt ↦ lit≤ tt
  | Ge ↦ lit≤ tt
  | Eq ↦ lit≤ tt
  | Ne ↦ lit≤ tt
  | And ↦ lit≤ tt
  | Xor ↦ lit≤ tt
  | Or ↦ lit≤ tt
  | Both ↦ lit≤ tt
  | Either ↦ lit≤ tt
]

pub strength_above : (op : BinOp) → 2 ≤ strength op
strength_above op = elim op as (λ op. 2 ≤ strength op) [
  | Mul ↦ lit≤ tt
  | Add ↦ lit≤ tt
  | Sub ↦ lit≤ tt
  | Shl ↦ lit≤ tt
  | Shr ↦ lit≤ tt
  | Lt ↦ lit≤ tt
  | Le ↦ lit≤ tt
  | Gt ↦ lit≤ tt
  | Ge ↦ lit≤ tt
  | Eq ↦ lit≤ tt
  | Ne ↦ lit≤ tt
  | And ↦ lit≤ tt
  | Xor ↦ lit≤ tt
  | Or ↦ lit≤ tt
  | Both ↦ lit≤ tt
  | Either ↦ lit≤ tt
]

-- an operator is no bracket
pub infix_no_bracket : (op : BinOp) (ts : List TokenTree) → after_mark OpenBracket (Mark (infix_sign op) ∷ ts) ≡ None
infix_no_bracket op ts = elim op as (λ op. after_mark OpenBracket (Mark (infix_sign op) ∷ ts) ≡ None) [
  | Mul ↦ refl
  | Add ↦ refl
  | Sub ↦ refl
  | Shl ↦ refl
  | Shr ↦ refl
  | Lt ↦ refl
  | Le ↦ refl
  | Gt ↦ refl
  | Ge ↦ refl
  | Eq ↦ refl
  | Ne ↦ refl
  | And ↦ refl
  | Xor ↦ refl
  | Or ↦ refl
  | Both ↦ refl
  | Either ↦ refl
]

pub infix_here : (least : ℕ) (op : BinOp) (ts : List TokenTree) → least ≤ strength op → infix_at least (Mark (infix_sign op) ∷ ts) ≡ Some (op, ts)
infix_here least op ts h = ap (strong_infix least ts) (infix_again op) ∙ cond-true _ _ _ (le-leb least (strength op) h)

pub infix_not_here : (least : ℕ) (op : BinOp) (ts : List TokenTree) → strength op < least → OpEnds least (Mark (infix_sign op) ∷ ts)
infix_not_here least op ts h = ap (strong_infix least ts) (infix_again op) ∙ cond-false _ _ _ (lt-leb least (strength op) h)

-- what is not in front at one strength is not at a greater one
pub ends_above : (least more : ℕ) (ts : List TokenTree) → least ≤ more → OpEnds least ts → OpEnds more ts
ends_above least more [] le h = refl
ends_above least more (t ∷ ts) le h = elim (infix_of t) as (λ o. strong_infix least ts o ≡ None → strong_infix more ts o ≡ None) [
  | None ↦ λ h. refl
  | Some op ↦ λ h. elim (cases_Bool (nat_le least (strength op))) [
    | inl strong ↦ absurd (let e : Some (op, ts) ≡ None = sym (cond-true _ _ _ strong) ∙ h in cc)
    | inr weak ↦ cond-false _ _ _ (lt-leb more (strength op) (omega (arith, leb-false least (strength op) weak)))
  ]
] h

-- no operator is stronger than a prefix
pub above_all : (n : ℕ) (ts : List TokenTree) → 11 < n → OpEnds n ts
above_all n [] h = refl
above_all n (t ∷ ts) h = elim (infix_of t) as (λ o. strong_infix n ts o ≡ None) [
  | None ↦ refl
  | Some op ↦ cond-false _ _ _ (lt-leb n (strength op) (omega (arith, strength_below op)))
]
