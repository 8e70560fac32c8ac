-- A function has at most one budget for each number of clocks, so there are few instances.
use Rattle.std.proofs.Common.{◌≡◌, ℕ, zero, suc, ◌<◌, ◌≤◌, List, [], ◌∷◌, length, Bool, true, false, ◌||◌, Some, slice_get, refl, ap, sym, arith, eqb, eqb-true, ne_eqb}
use Rattle.std.specs.List.{AllByRecursion, IsDistinct, list_any}
use Rattle.std.proofs.lemmas.Bool.{false≢true}
use Rattle.std.proofs.lemmas.Map.Steps.{length-le_from_distinct_below}
use Rattle.ae_rewrite.specs.Planned.{IsEachOnce}

-- a number that stands nowhere in a list differs from each in it
apart : (u : ℕ) (us : List ℕ) → ((i : ℕ) → slice_get us i ≡ Some u → ⊥) → AllByRecursion (λ v. eqb u v ≡ false) us
apart u [] none = tt
apart u (v ∷ us) none = (ne_eqb u v (λ e. none 0 (ap Some (sym e))), apart u us (λ i at. none (suc i) at))

distinct : (us : List ℕ) → IsEachOnce us → IsDistinct eqb us
unfolding IsDistinct
distinct [] once = tt
distinct (u ∷ us) once = (
  apart u us (λ i at. let same : zero ≡ suc i = once 0 (suc i) u refl at in absurd (omega arith)),
  distinct us (λ i k v at there. let same : suc i ≡ suc k = once (suc i) (suc k) v at there in omega arith),
)

-- a number that is one of a list stands somewhere in it
stands : (q : ℕ) (us : List ℕ) → list_any (eqb q) us ≡ true → (i : ℕ) × (slice_get us i ≡ Some q)
stands q [] h = absurd (false≢true h)
stands q (u ∷ us) h = by (eqb q u) refl (stands q us) h
  where
    by : (b : Bool) → eqb q u ≡ b → (list_any (eqb q) us ≡ true → (i : ℕ) × (slice_get us i ≡ Some q)) → (b || list_any (eqb q) us) ≡ true → (i : ℕ)
        × (slice_get (u ∷ us) i ≡ Some q)
    by true is later any = (0, ap Some (sym (eqb-true q u is)))
    by false is later any = let r = later any in (suc r.0, r.1)

pub few-budgets : (us : List ℕ) → IsEachOnce us → ((i u : ℕ) → slice_get us i ≡ Some u → (0 < u) × (u ≤ 4096)) → length us ≤ 4097
few-budgets us once within =
    length-le_from_distinct_below us 4097 (distinct us once) (λ q h. let at = stands q us h in let w = within at.0 q at.1 in omega (arith, w.1))
