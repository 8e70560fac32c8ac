-- A register that is written once a period holds the word for a period.
use Rattle.std.proofs.Common.{ℕ, zero, suc, ◌≡◌, ◌≢◌, ◌+◌, ◌-◌, ◌<◌, ◌≤◌, ◌==◌, if◌then◌else◌, true, false, List, length, arith, sym, ◌∙◌, eq-eqb}
use Rattle.std.proofs.lemmas.Bool.{ne_eqb}
use Rattle.ae_netlist.specs.Runs.{Clock, word_at, HasWords}
use Rattle.ae_clocked.specs.Phases.{phase_of}
use Rattle.ae_columns.specs.Held.{IsKept, Holds}
use Rattle.ae_clocked.proofs.RingLaw.{phases_differ}
use Rattle.ae_clocked.proofs.Turns.{bit_chooses}

other_phase : (p o c a : ℕ) → o < p → 1 ≤ a → a < p → phase_of p o (c + a) ≢ phase_of p o c
unfolding phase_of
other_phase p o c a less some small e = phases_differ p (c + p - o) (c + a + p - o) (omega arith) (omega arith) (sym e)

-- one clock more
pub kept_on : (run : List Clock) (start y x r p o q c a : ℕ) → o < p → IsKept run y r q x → HasWords run start r (phase_of p o) → phase_of p o c ≡ q
    → suc a ≤ p → start + (c + suc a) < length run
    → (1 ≤ a → word_at run (start + (c + a)) y ≡ word_at run (start + c) x) → word_at run (start + (c + suc a)) y ≡ word_at run (start + c) x
kept_on run start y x r p o q c zero less kept counts here within l before =
    let at : start + (c + 1) ≡ start + c + 1 = omega arith in
    let now : word_at run (start + c) r ≡ q = counts c (omega arith) ∙ here in
    let t : (word_at run (start + c) r == q) ≡ true = eq-eqb _ _ now in
    rw at (rw t at (kept (start + c) (omega arith)))
kept_on run start y x r p o q c (suc a) less kept counts here within l before =
    let at : start + (c + suc (suc a)) ≡ start + (c + suc a) + 1 = omega arith in
    let shown : word_at run (start + (c + suc a)) r ≡ phase_of p o (c + suc a) = counts (c + suc a) (omega arith) in
    let other : phase_of p o (c + suc a) ≢ phase_of p o c = other_phase p o c (suc a) less (omega arith) (omega arith) in
    let t : (word_at run (start + (c + suc a)) r == q) ≡ false = ne_eqb _ _ (λ e. other (sym shown ∙ (e ∙ sym here))) in
    rw at (rw t at (kept (start + (c + suc a)) (omega arith)) ∙ before (omega arith))

pub held : (run : List Clock) (start y x r p o q : ℕ) → o < p → IsKept run y r q x → HasWords run start r (phase_of p o) → Holds run start y x p o q
held run start y x r p o q less kept counts c zero here some within l = absurd (omega arith)
held run start y x r p o q less kept counts c (suc a) here some within l =
    kept_on run start y x r p o q c a less kept counts here within l
    (λ more. held run start y x r p o q less kept counts c a here more (omega arith) (omega arith))

-- one clock of the register
pub kept_is : (r q begin begins x y next after : ℕ)
    → begin ≡ q → begins ≡ (if r == begin then 1 else 0) → next ≡ (if begins == 1 then x else y) → after ≡ next → after ≡ (if r == q then x else y)
kept_is r q begin begins x y next after e b n a = rw (a, n, b, e) (bit_chooses (r == q) x y)
