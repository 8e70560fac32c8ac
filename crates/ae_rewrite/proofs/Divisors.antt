-- The search for the greatest divisor, one step down.
use Rattle.std.proofs.Common.{◌≡◌, ℕ, zero, suc, ◌-◌, ◌%◌, ◌<◌, ◌≤◌, refl, sym, ◌∙◌, arith, inl, inr, sub-one}
use Rattle.std.proofs.lemmas.Bool.{eq-eqb, ne_eqb, cases_eq}
use Rattle.ae_rewrite.specs.LayoutRule.{greatest_divisor}

-- d is not below the greatest divisor of n up to m
pub record Searches (n m d : ℕ) : Type 0 where
  pub within : d ≤ m
  pub same : greatest_divisor n d ≡ greatest_divisor n m
  pub above : (e : ℕ) → d < e → e ≤ m → n % e ≡ 0 → ⊥
  pub positive : 0 < m → 0 < d

pub searches_start : (n m : ℕ) → Searches n m m
searches_start n m = record { within = omega arith; same = refl; above = λ e p q z. omega arith; positive = λ p. p }

mod-one : (n : ℕ) → n % 1 ≡ 0
mod-one n = omega arith

pub searches_down : (n m d : ℕ) → Searches n m d → 0 < d → (n % d ≡ 0 → ⊥) → Searches n m (d - 1)
searches_down n m zero s p odd = absurd (omega arith)
searches_down n m (suc d) s p odd = rw sub-one (record {
  within = omega (arith, s.within);
  same = sym (rw (ne_eqb (n % suc d) 0 odd) refl) ∙ s.same;
  above = λ e q r z. elim (cases_eq e (suc d)) [ inl is ↦ odd (rw is at z) | inr ne ↦ s.above e (omega arith) r z ];
  positive = λ q. elim (cases_eq d 0) [ inl is ↦ absurd (odd (rw is (mod-one n))) | inr ne ↦ omega arith ];
})

pub searches_found : (n m d : ℕ) → Searches n m d → 0 < d → n % d ≡ 0 → d ≡ greatest_divisor n m
searches_found n m zero s p z = absurd (omega arith)
searches_found n m (suc d) s p z = sym (rw (eq-eqb (n % suc d) 0 z) refl) ∙ s.same

pub searches_ended : (n m : ℕ) → Searches n m 0 → 0 ≡ greatest_divisor n m
searches_ended n m s = s.same

pub ruleset searching = (searches_start, searches_down, searches_found, searches_ended)
