use Rattle.std.proofs.Common.{◌≡◌, ℕ, ◌<◌, ◌^◌, List, Some, None, length, get_or, sym, ◌∙◌, arith}
use Rattle.std.specs.Fmt.{decimal}
use Rattle.ae_fields.specs.Number.{numeral_value}
use Rattle.ae_fields.proofs.PlainLemmas.{zero-led, number-of-decimal, decimal-of-number, one-digit}
use Rattle.ae_fields.proofs.numbers.plain_number.Goals.{then-value-from-via-then-value-from, then-value-from-via-else-value-from+then-value-from-2}
use Rattle.ae_fields.proofs.numbers.plain_number.Goals as goal

pub returns-then-has_leading_zero : goal.returns-then-has_leading_zero
returns-then-has_leading_zero c = λ n a b e.
    let zero = c.has_leading_zero.ensures.there c.if-has_leading_zero.true in
    zero-led c.args.digits.now zero.0 zero.1 n (omega arith) e

no-number : (ds : List ℕ) (n : ℕ) → numeral_value ds ≡ None → n < 2 ^ 64 → ds ≡ decimal n → ⊥
no-number ds n none h e = let s = number-of-decimal ds n h e in cc

pub returns-in_default : goal.returns-in_default
returns-in_default c = λ n a b e. no-number c.args.digits.now n (sym c.number.ensures ∙ c.in_default.is) (omega arith) e

same-number : (ds : List ℕ) (n v : ℕ) → numeral_value ds ≡ Some v → n < 2 ^ 64 → ds ≡ decimal n → v ≡ n
same-number ds n v some h e = let s = number-of-decimal ds n h e in cc

pub returns-then-value-from : goal.returns-then-value-from
returns-then-value-from c = λ n a b e.
    let v = same-number c.args.digits.now n c.in-Some.value (sym c.number.ensures ∙ c.in-Some.is) (omega arith) e in
    elim c.then-value-from.branch [
      | then-value-from-via-then-value-from w ↦ omega arith
      | then-value-from-via-else-value-from+then-value-from-2 w ↦ omega arith
    ]

pub returns : goal.returns
returns c =
    let ds = c.args.digits.now in
    let led : get_or ds 0 0 ≡ 48 → length ds ≡ 1 = λ z. one-digit ds (c.has_leading_zero.ensures.none c.if-has_leading_zero.false z) z in
    (omega arith, omega arith, decimal-of-number ds c.in-Some.value (sym c.number.ensures ∙ c.in-Some.is) led)
