-- Signed words and their codes.
use Rattle.std.proofs.Common.{◌≡◌, ℕ, pos, negsuc, ◌-◌, ◌%◌, ◌^◌, ◌<◌, ◌≤◌, Bool, true, false, nat_lt, int_lt, refl, arith}
use Rattle.std.specs.Int.{int_min, int_max}
use Rattle.std.proofs.lemmas.Int.{ints}
use Rattle.std.proofs.lemmas.Bool.Decides.{nat_tests}
use Rattle.std.proofs.Math.Nat.{mod-eq_of_lt}
use Rattle.ae_word.specs.WordTable.{code, signed_value}

-- a code from half of all codes on is that of a number below 0
pub value-negative : (w a : ℕ) → 2 ^ (w - 1) ≤ a → a < 2 ^ w → signed_value w a ≡ negsuc (2 ^ w - 1 - a)
value-negative w a h k = grind (arith, ints, nat_tests)

pub value-positive : (w a : ℕ) → a < 2 ^ (w - 1) → signed_value w a ≡ pos a
value-positive w a h = grind (arith, nat_tests)

pub code-positive : (w n : ℕ) → n < 2 ^ w → code w (pos n) ≡ n
code-positive w n h = mod-eq_of_lt h

code-by : (b : Bool) (w a : ℕ) → b ≡ nat_lt a (2 ^ (w - 1)) → a < 2 ^ w → code w (signed_value w a) ≡ a
code-by true w a e h =
    let low : a < 2 ^ (w - 1) = grind (arith, nat_tests) in
    rw (value-positive w a low) (code-positive w a h)
code-by false w a e h =
    let high : 2 ^ (w - 1) ≤ a = grind (arith, nat_tests) in
    let small : (2 ^ w - 1 - a) % 2 ^ w ≡ 2 ^ w - 1 - a = mod-eq_of_lt (omega arith) in
    rw (value-negative w a high h) (rw small (omega arith))

-- a word is the code of its value
pub code-of_value : (w a : ℕ) → a < 2 ^ w → code w (signed_value w a) ≡ a
code-of_value w a h = code-by _ w a refl h

-- the code of the smaller, of the greater of two values
pub code-min_first : (w a b : ℕ) → a < 2 ^ w → int_lt (signed_value w b) (signed_value w a) ≡ false → code w (int_min (signed_value w a) (signed_value w b)) ≡ a
code-min_first w a b h e = rw e (code-of_value w a h)

pub code-min_second : (w a b : ℕ) → b < 2 ^ w → int_lt (signed_value w b) (signed_value w a) ≡ true → code w (int_min (signed_value w a) (signed_value w b)) ≡ b
code-min_second w a b h e = rw e (code-of_value w b h)

pub code-max_first : (w a b : ℕ) → a < 2 ^ w → int_lt (signed_value w b) (signed_value w a) ≡ true → code w (int_max (signed_value w a) (signed_value w b)) ≡ a
code-max_first w a b h e = rw e (code-of_value w a h)

pub code-max_second : (w a b : ℕ) → b < 2 ^ w → int_lt (signed_value w b) (signed_value w a) ≡ false
    → code w (int_max (signed_value w a) (signed_value w b)) ≡ b
code-max_second w a b h e = rw e (code-of_value w b h)

pub ruleset signed_choices = (code-min_first, code-min_second, code-max_first, code-max_second)
