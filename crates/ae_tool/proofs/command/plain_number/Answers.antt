use Rattle.std.proofs.Common.{◌≡◌, ℕ, ◌<◌, ◌^◌, List, Option, Some, None, length, get_or, sym, arith}
use Rattle.std.specs.Prelude.{MatchOption}
use Rattle.std.specs.Fmt.{decimal}
use Rattle.ae_fields.specs.Number.{numeral_value}
use Rattle.ae_fields.proofs.PlainLemmas.{zero-led, number-of-decimal, decimal-of-number, one-digit}
use Rattle.ae_tool.proofs.command.plain_number.Goals.{else-digits-gt1-via-then-digits-gt1+else-digits-eq48, else-digits-gt1-via-else-digits-gt1}
use Rattle.ae_tool.proofs.command.plain_number.Goals as goal

pub returns-then-digits-eq48 : goal.returns-then-digits-eq48
returns-then-digits-eq48 c = λ n small e. zero-led c.args.digits.now c.if-digits-gt1.true c.if-digits-eq48.true n small e

decided : (ds : List ℕ) (o : Option ℕ) → (get_or ds 0 0 ≡ 48 → length ds ≡ 1) → numeral_value ds ≡ o
    → MatchOption o ((n : ℕ) → n < 2 ^ 64 → ds ≡ decimal n → ⊥) (λ n. ds ≡ decimal n)
decided ds None led e = λ n small written. let s = number-of-decimal ds n small written in cc
decided ds (Some n) led e = decimal-of-number ds n e led

pub returns : goal.returns
returns c =
    let ds = c.args.digits.now in
    let led : get_or ds 0 0 ≡ 48 → length ds ≡ 1 = λ z. elim c.else-digits-gt1.branch [
      | else-digits-gt1-via-then-digits-gt1+else-digits-eq48 w ↦ absurd (w.if-digits-eq48.false z)
      | else-digits-gt1-via-else-digits-gt1 w ↦ one-digit ds (omega arith) z
    ] in
    decided ds c.number.result led (sym c.number.ensures)
