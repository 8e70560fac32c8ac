-- What holds where a case applies.
use Rattle.std.proofs.Common.{◌≡◌, ℕ, zero, suc, ◌-◌, ◌*◌, ◌/◌, ◌%◌, ◌<◌, ◌≤◌, refl, ap, arith, inl, inr, ◌⊎◌, Option, Some, Bool, true, false, cond, nat_eq, nat_lt}
use Rattle.std.proofs.lemmas.Bool.{eq-eqb, ne_eqb, cases_eq, eqb-true, ltb-true}
use Rattle.std.proofs.lemmas.Option.{cond_some, same_Some}
use Rattle.std.proofs.lemmas.Nat.{div-add-mod'}
use Rattle.ae_rewrite.specs.declared.cases.Case.{Case}
use Rattle.ae_rewrite.specs.declared.cases.Case.TheVariants.{Parallel, Spread, Grouped, Padded, Folded}
use Rattle.ae_rewrite.specs.LayoutRule.{case_of, inner_of, folded_by, greatest_divisor}

abbrev pub Applies : (n clocks : ℕ) → Case → Type 0
Applies n clocks Parallel = clocks ≡ 1
Applies n clocks Spread = clocks % n ≡ 0
Applies n clocks Grouped = n % clocks ≡ 0
Applies n clocks Padded = n < clocks
Applies n clocks (Folded d) = (1 < d) × (n % d ≡ 0) × (d < clocks)

divides_n : (n m : ℕ) → 0 < greatest_divisor n m → (n % greatest_divisor n m ≡ 0) × (greatest_divisor n m ≤ m)
divides_n n zero h = absurd (omega arith)
divides_n n (suc m) h = elim (cases_eq (n % suc m) 0) [
  | inl e ↦ rw (eq-eqb (n % suc m) 0 e) (e, omega arith)
  | inr ne ↦ let g = divides_n n m (rw (ne_eqb (n % suc m) 0 ne) at h) in rw (ne_eqb (n % suc m) 0 ne) (g.0, omega (arith, g.1))
]

folded_applies : (n clocks d : ℕ) (c : Case) → d ≡ greatest_divisor n (clocks - 1) → 0 < clocks → folded_by d ≡ Some c → Applies n clocks c
folded_applies n clocks d c is p h =
    let q = cond_some (nat_lt 1 d) (Folded d) c h in
    let above : 1 < d = ltb-true 1 d q.0 in
    let g = divides_n n (clocks - 1) (omega (arith, above, is)) in
    rw (← q.1) (above, rw is g.0, omega (arith, g.1, is))

-- the first choice, where its test holds, or a later one
picked : (b : Bool) (x : Case) (o : Option Case) (c : Case) → cond b (Some x) o ≡ Some c → ((b ≡ true) × (x ≡ c)) ⊎ ((b ≡ false) × (o ≡ Some c))
picked true x o c h = inl (refl, same_Some x c h)
picked false x o c h = inr (refl, h)

pub applies : (n clocks : ℕ) (c : Case) → 0 < clocks → case_of n clocks ≡ Some c → Applies n clocks c
applies n clocks c p h = elim (picked (nat_eq clocks 1) Parallel _ c h) [
  | inl one_clock ↦ rw (← one_clock.1) (eqb-true clocks 1 one_clock.0)
  | inr more ↦ elim (picked (nat_eq (clocks % n) 0) Spread _ c more.1) [
    | inl spread ↦ rw (← spread.1) (eqb-true (clocks % n) 0 spread.0)
    | inr more ↦ elim (picked (nat_eq (n % clocks) 0) Grouped _ c more.1) [
      | inl grouped ↦ rw (← grouped.1) (eqb-true (n % clocks) 0 grouped.0)
      | inr more ↦ elim (picked (nat_lt n clocks) Padded _ c more.1) [
        | inl padded ↦ rw (← padded.1) (ltb-true n clocks padded.0)
        | inr more ↦ folded_applies n clocks (greatest_divisor n (clocks - 1)) c refl p more.1
      ]
    ]
  ]
]

pub folded_below : (n clocks d : ℕ) → 0 < clocks → case_of n clocks ≡ Some (Folded d) → (1 < d) × (d < clocks)
folded_below n clocks d p h = let a = applies n clocks (Folded d) p h in (a.0, a.2)

-- ---- quotients without a rest

pub whole : (a b : ℕ) → 0 < b → a % b ≡ 0 → b * (a / b) ≡ a
whole a b p h = omega (arith, div-add-mod' a b)

pub quotient_pos : (n d : ℕ) → 0 < n → 0 < d → n % d ≡ 0 → 0 < n / d
quotient_pos n d p q h =
    let w : d * (n / d) ≡ n = whole n d q h in
    elim (cases_eq (n / d) 0) [ inl e ↦ absurd (omega (arith, w, ap (λ x. d * x) e)) | inr ne ↦ omega arith ]

pub inner_pos : (n clocks : ℕ) (c : Case) → 0 < n → 0 < clocks → Applies n clocks c → 0 < inner_of n clocks c
inner_pos n clocks Parallel p q h = omega arith
inner_pos n clocks Spread p q h = quotient_pos clocks n q p h
inner_pos n clocks Grouped p q h = omega arith
inner_pos n clocks Padded p q h = omega arith
inner_pos n clocks (Folded d) p q h = omega arith
