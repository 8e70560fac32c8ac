-- The difference with the number of all words added is a natural number.
use Rattle.std.proofs.Common.{ℕ, ◌≡◌, ◌+◌, ◌-◌, ◌%◌, ◌^◌, ◌<◌, ◌-ℤ◌, pos, arith, ap, sym, ◌∙◌, refl, unsigned_abs}
use Rattle.std.proofs.lemmas.Int.{ints, int_rem_euclid_is}
use Rattle.std.proofs.lemmas.Nat.{pow_pos}
use Rattle.ae_word.specs.WordTable.{code}
use Rattle.ae_word.proofs.result.difference.Goals as goal

is_code : (w a b : ℕ) → a < 2 ^ w → b < 2 ^ w → (a + (2 ^ w - 1 - b) + 1) % 2 ^ w ≡ code w (pos a -ℤ pos b)
is_code w a b h k =
    ap unsigned_abs (sym (int_rem_euclid_is (pos a -ℤ pos b) (pos (2 ^ w)) (2 ^ w) 1 (a + (2 ^ w - 1 - b) + 1) (pow_pos w) refl (omega (arith, ints))))

pub returns : goal.returns
returns c =
    c.low_bits.ensures ∙ ap (λ n. (c.args.a + n + 1) % 2 ^ c.args.width) c.complement.ensures ∙
    is_code c.args.width c.args.a c.args.b c.requires.a_fits c.requires.b_fits
