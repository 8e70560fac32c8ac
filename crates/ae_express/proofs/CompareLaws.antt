-- Comparisons and their opposites, as bits.
use Rattle.std.proofs.Common.{ℕ, ◌≡◌, ◌-◌, ◌^◌, ◌≤◌, inl, inr, Bool, true, false, nat_lt, nat_le, not, refl, sym, ap, ◌∙◌, arith}
use Rattle.std.proofs.lemmas.Bool.{cases_lt, le-leb, lt-leb}
use Rattle.std.proofs.lemmas.Bool.Decides.{Decides-ltb, nat_tests}
use Rattle.ae_word.specs.WordTable.{bit}

pub not_bit : (z : Bool) → 2 ^ 1 - 1 - bit z ≡ bit (not z)
not_bit true = refl
not_bit false = refl

not_less : (a b : ℕ) → not (nat_lt a b) ≡ nat_le b a
not_less a b = elim (cases_lt a b) [
  | inl l ↦ ap not ((Decides-ltb a b).1 l) ∙ sym (lt-leb b a l)
  | inr g ↦ ap not (not_lt a b g) ∙ sym (le-leb b a g)
]
  where
    not_lt : (a b : ℕ) → b ≤ a → nat_lt a b ≡ false
    not_lt a b g = grind (arith, nat_tests)

pub at_least : (a b : ℕ) → 2 ^ 1 - 1 - bit (nat_lt a b) ≡ bit (nat_le b a)
at_least a b = not_bit (nat_lt a b) ∙ ap bit (not_less a b)
