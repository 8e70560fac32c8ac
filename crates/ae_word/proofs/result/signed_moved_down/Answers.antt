-- A number below 0 is moved down as the complement of its complement.
use Rattle.std.proofs.Common.{ℕ, ◌≡◌, ◌-◌, ◌/◌, ◌^◌, ◌<◌, ◌≤◌, pos, arith, sym, ap}
use Rattle.std.specs.Int.{int_div_euclid}
use Rattle.std.proofs.Math.Nat.{mod-eq_of_lt, div-le_self}
use Rattle.std.proofs.lemmas.Bool.Decides.{nat_tests}
use Rattle.ae_word.specs.WordTable.{code, signed_value}
use Rattle.ae_word.proofs.Signed.{value-negative}
use Rattle.ae_word.proofs.result.signed_moved_down.Goals as goal

below : (w a k : ℕ) → 2 ^ (w - 1) ≤ a → a < 2 ^ w → 2 ^ w - 1 - (2 ^ w - 1 - a) / 2 ^ k ≡ code w (int_div_euclid (signed_value w a) (pos (2 ^ k)))
below w a k h l =
    let q = (2 ^ w - 1 - a) / 2 ^ k in
    let small : q < 2 ^ w = omega (arith, div-le_self (2 ^ w - 1 - a) (2 ^ k)) in
    rw (value-negative w a h l) (ap (λ n. 2 ^ w - 1 - n) (sym (mod-eq_of_lt small)))

pub returns-then-is_negative : goal.returns-then-is_negative
returns-then-is_negative c =
    let high : 2 ^ (c.args.width - 1) ≤ c.args.a = grind (arith, nat_tests) in
    rw (c.complement-then-is_negative.ensures, c.moved_down.ensures, c.complement.ensures) (below c.args.width c.args.a c.args.by high c.requires)
