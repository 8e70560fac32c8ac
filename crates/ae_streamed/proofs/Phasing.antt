-- The marks of a circuit are those of its blocks.
use Rattle.std.proofs.Common.{ℕ, ◌≡◌, ◌+◌, ◌-◌, ◌*◌, ◌/◌, ◌%◌, ◌<◌, Bool, true, false, inl, inr, arith, refl, sym, ap, ◌∙◌}
use Rattle.std.specs.Prelude.{◌==◌, nat_lt, if◌then◌else◌}
use Rattle.std.proofs.lemmas.Bool.{cases_eq, cases_lt, eq-eqb, ne_eqb}
use Rattle.std.proofs.lemmas.Nat.{div-add-mod', mod_below, mod-mul-add}
use Rattle.std.proofs.Math.Nat.{add-mod_right}
use Rattle.ae_clocked.specs.Phases.{phase_of}
use Rattle.ae_stream.specs.Driven.{late_clock}
use Rattle.ae_streamed.proofs.Beats.{more_mod}
use Rattle.ae_stream.proofs.Flags.{ge_is, lt_is}

-- a bit that is told by a number
pub bit_of : (b : Bool) (word : ℕ) → word ≡ (if b then 1 else 0) → (word == 1) ≡ b
bit_of true word e = ap (λ n. n == 1) e
bit_of false word e = ap (λ n. n == 1) e

pub phase_first : (slowdown t : ℕ) → phase_of slowdown 0 t ≡ t % slowdown
unfolding phase_of
phase_first slowdown t = (let e : t + slowdown - 0 ≡ t + slowdown = omega arith in ap (λ n. n % slowdown) e ∙ add-mod_right t slowdown)

below_one : (n : ℕ) → nat_lt n 1 ≡ (n == 0)
below_one n = elim (cases_eq n 0) [
  | inl e ↦ rw e refl
  | inr ne ↦ ge_is n 1 (omega (arith, ne)) ∙ sym (ne_eqb n 0 ne)
]

pub first_is : (slowdown t : ℕ) → nat_lt (phase_of slowdown 0 t) 1 ≡ (t % slowdown == 0)
first_is slowdown t = ap (λ n. nat_lt n 1) (phase_first slowdown t) ∙ below_one (t % slowdown)

-- the phase by the clock of the block
pub phase_late : (slowdown r t : ℕ) → 0 < slowdown → r < slowdown → phase_of slowdown r t ≡ late_clock slowdown r (t % slowdown)
unfolding phase_of
phase_late slowdown r t some l =
    let c : ℕ = t % slowdown in
    let low : c < slowdown = mod_below t slowdown some in
    let e : t / slowdown * slowdown + (c + slowdown - r) ≡ t + slowdown - r = omega (arith, div-add-mod' t slowdown, l) in
    ap (λ n. n % slowdown) (sym e) ∙ (more_mod (c + slowdown - r) slowdown (t / slowdown) some ∙ elim (cases_lt c r) [
      | inl less ↦
          let b : nat_lt c r ≡ true = lt_is c r less in
          rw b (mod_same (c + slowdown - r) slowdown (omega arith))
      | inr more ↦
          let b : nat_lt c r ≡ false = ge_is c r more in
          let f : c + slowdown - r ≡ 1 * slowdown + (c - r) = omega arith in
          rw b (ap (λ n. n % slowdown) f ∙ mod-mul-add 1 slowdown (c - r) (omega arith))
    ])
  where
    mod_same : (n k : ℕ) → n < k → n % k ≡ n
    mod_same n k m = (let z : 0 * k + n ≡ n = omega arith in ap (λ i. i % k) (sym z) ∙ mod-mul-add 0 k n m)

pub last_is : (slowdown t : ℕ) → 0 < slowdown → nat_lt (phase_of slowdown (slowdown - 1) t) 1 ≡ (t % slowdown == slowdown - 1)
last_is slowdown t some =
    let c : ℕ = t % slowdown in
    let low : c < slowdown = mod_below t slowdown some in
    ap (λ n. nat_lt n 1) (phase_late slowdown (slowdown - 1) t some (omega arith)) ∙
    (below_one (late_clock slowdown (slowdown - 1) c) ∙ elim (cases_eq c (slowdown - 1)) [
      | inl e ↦ rw e (at_end slowdown)
      | inr ne ↦
          let b : nat_lt c (slowdown - 1) ≡ true = lt_is c (slowdown - 1) (omega (arith, ne)) in
          let f : (c == slowdown - 1) ≡ false = ne_eqb c (slowdown - 1) ne in
          rw (b, f) (ne_eqb (c + slowdown - (slowdown - 1)) 0 (λ z. omega arith))
    ])
  where
    at_end : (s : ℕ) → (late_clock s (s - 1) (s - 1) == 0) ≡ (s - 1 == s - 1)
    at_end s =
        let b : nat_lt (s - 1) (s - 1) ≡ false = grind arith in
        let z : s - 1 - (s - 1) ≡ 0 = omega arith in
        rw (b, z) (sym (eq-eqb (s - 1) (s - 1) refl))
