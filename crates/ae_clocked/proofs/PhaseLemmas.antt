-- A counter that begins at its first phase in reset has the phase of every clock.
use Rattle.std.proofs.Common.{ℕ, zero, suc, ◌≡◌, ◌+◌, ◌-◌, ◌<◌, ◌≤◌, ◌%◌, ◌^◌, ◌==◌, if◌then◌else◌, true, false, inl, inr, List, length, arith, refl, sym, ap, ◌∙◌, add-one, eq-eqb}
use Rattle.std.proofs.lemmas.Bool.{cases_eq, ne_eqb}
use Rattle.std.proofs.Math.Nat.{suc-mod, mod_self, mod-eq_of_lt}
use Rattle.ae_netlist.specs.Runs.{Clock, word_at, IsReset, HasWords}
use Rattle.ae_clocked.specs.Signals.{Counts}
use Rattle.ae_clocked.specs.Phases.{phase_of}

-- one more clock
turn_of_mod : (n p w : ℕ) → 1 ≤ p → p ≤ 2 ^ w → (if n % p == p - 1 then 0 else (n % p + 1) % 2 ^ w) ≡ (n + 1) % p
turn_of_mod n p w pos wide =
    let x : ℕ = n % p in
    let small : x < p = omega arith in
    let step : (n + 1) % p ≡ suc x % p = rw add-one (suc-mod n p) in
    elim (cases_eq x (p - 1)) [
      | inl e ↦
          let t : (x == p - 1) ≡ true = eq-eqb x (p - 1) e in
          let full : suc x ≡ p = omega arith in
          rw (t, step, full) (sym (mod_self p))
      | inr ne ↦
          let t : (x == p - 1) ≡ false = ne_eqb x (p - 1) ne in
          let less : suc x < p = omega arith in
          let fits : suc x < 2 ^ w = omega arith in
          rw (t, step, add-one) (mod-eq_of_lt fits ∙ sym (mod-eq_of_lt less))
    ]

pub phase_more : (p o w c : ℕ) → o < p → p ≤ 2 ^ w → (if phase_of p o c == p - 1 then 0 else (phase_of p o c + 1) % 2 ^ w) ≡ phase_of p o (c + 1)
unfolding phase_of
phase_more p o w c less wide =
    let e : c + 1 + p - o ≡ c + p - o + 1 = omega arith in
    turn_of_mod (c + p - o) p w (omega arith) wide ∙ ap (λ n. n % p) (sym e)

pub counts_phase : (run : List Clock) (r rst w p o start : ℕ) → o < p → p ≤ 2 ^ w → Counts run r rst w (p - 1) (phase_of p o 0) → IsReset run rst start
    → HasWords run start r (phase_of p o)
counts_phase run r rst w p o zero less wide counts reset c h = (let some : 1 ≤ 0 = reset.some in absurd (omega arith))
counts_phase run r rst w p o (suc s) less wide counts reset zero h =
    let l : s + 1 < length run = omega arith in
    let high : word_at run s rst ≡ 1 = reset.high s (omega arith) (omega arith) in
    let e = counts s l in
    let at : suc s + 0 ≡ s + 1 = omega arith in
    rw (at, e, high) refl
counts_phase run r rst w p o (suc s) less wide counts reset (suc c) h =
    let l : suc s + c + 1 < length run = omega arith in
    let low : word_at run (suc s + c) rst ≡ 0 = reset.low (suc s + c) (omega arith) (omega arith) in
    let before : word_at run (suc s + c) r ≡ phase_of p o c = counts_phase run r rst w p o (suc s) less wide counts reset c (omega arith) in
    let e = counts (suc s + c) l in
    let at : suc s + suc c ≡ suc s + c + 1 = omega arith in
    rw (at, e, low, before) (phase_more p o w c less wide ∙ ap (phase_of p o) (add-one c))
