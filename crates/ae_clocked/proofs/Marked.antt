-- What a mark's register goes on with, and that it then marks the first clocks of each period.
use Rattle.std.proofs.Common.{ℕ, zero, suc, ◌≡◌, ◌≢◌, ◌+◌, ◌-◌, ◌<◌, ◌≤◌, ◌%◌, ◌^◌, ◌==◌, nat_lt, if◌then◌else◌, Bool, true, false, inl, inr, ◌⊎◌, List, length, arith, refl, sym, ap, ◌∙◌, add-one, zero-add, eq-eqb, rules}
use Rattle.std.proofs.lemmas.Bool.{cases_eq, cases_lt, ne_eqb}
use Rattle.std.proofs.Math.Nat.{add-mod_right, mod-add-mod, mod-eq_of_lt, mod-eq-sub-mod}
use Rattle.std.specs.Int.{from_bool}
use Rattle.std.specs.Int.Bits.{bit_xor}
use Rattle.ae_netlist.specs.Runs.{Clock, word_at, IsReset, HasWords}
use Rattle.ae_clocked.specs.Signals.{BeginsWith, IsAt, Turns}
use Rattle.ae_clocked.specs.Phases.{phase_of, IsMark, MarksPhases}
use Rattle.ae_clocked.proofs.PhaseLemmas.{phase_more}

-- a test as a number
pub bit_is : (n : ℕ) (b : Bool) → n ≡ from_bool b → n ≡ (if b then 1 else 0)
bit_is n true e = e
bit_is n false e = e

-- ---- one counter told by another

-- a number below three periods is its rest, and up to two periods more
pub near : (p n : ℕ) → n < p + p + p → (n ≡ n % p) ⊎ ((n ≡ n % p + p) ⊎ (n ≡ n % p + p + p))
near p n h = elim (cases_lt n p) [
  | inl l ↦ inl (sym (mod-eq_of_lt l))
  | inr ge ↦ elim (cases_lt (n - p) p) [
    | inl l ↦
        let e : n % p ≡ n - p = mod-eq-sub-mod ge ∙ mod-eq_of_lt l in
        inr (inl (omega (arith, e)))
    | inr more ↦
        let l : n - p - p < p = omega arith in
        let e : n % p ≡ n - p - p = mod-eq-sub-mod ge ∙ (mod-eq-sub-mod more ∙ mod-eq_of_lt l) in
        inr (inr (omega (arith, e)))
  ]
]

-- the same number more, below two periods, keeps numbers below a period apart
pub apart : (p x q s : ℕ) → x < p → q < p → s < p + p → (x + s) % p ≡ (q + s) % p → x ≡ q
apart p x q s lx lq ls e =
    let a = near p (x + s) (omega arith) in
    let b = near p (q + s) (omega arith) in
    elim a [
      | inl u ↦ elim b [ inl v ↦ omega (arith, e, u, v) | inr (inl v) ↦ omega (arith, e, u, v) | inr (inr v) ↦ omega (arith, e, u, v) ]
      | inr (inl u) ↦ elim b [ inl v ↦ omega (arith, e, u, v) | inr (inl v) ↦ omega (arith, e, u, v) | inr (inr v) ↦ omega (arith, e, u, v) ]
      | inr (inr u) ↦ elim b [ inl v ↦ omega (arith, e, u, v) | inr (inl v) ↦ omega (arith, e, u, v) | inr (inr v) ↦ omega (arith, e, u, v) ]
    ]

-- a counter that begins in one clock, by that which begins in another
told_by : (p o a c : ℕ) → o < p → a < p → phase_of p a c ≡ (phase_of p o c + (o + p - a)) % p
unfolding phase_of
told_by p o a c lo la =
    let more : c + p - o + (o + p - a) ≡ c + p - a + p = omega arith in
    sym (mod-add-mod (c + p - o) p (o + p - a) ∙ ap (λ n. n % p) more ∙ add-mod_right (c + p - a) p)

phase_small : (p o c : ℕ) → o < p → phase_of p o c < p
unfolding phase_of
phase_small p o c less = omega arith

-- the other counter shows a phase exactly in its clocks
shows_phase : (p o a q c : ℕ) → o < p → a < p → q < p → (phase_of p a c == (q + (o + p - a)) % p) ≡ (phase_of p o c == q)
shows_phase p o a q c lo la lq = elim (cases_eq (phase_of p o c) q) [
  | inl e ↦
      let t : (phase_of p o c == q) ≡ true = eq-eqb _ _ e in
      let u : (phase_of p a c == (q + (o + p - a)) % p) ≡ true = eq-eqb _ _ (told_by p o a c lo la ∙ ap (λ n. (n + (o + p - a)) % p) e) in
      u ∙ sym t
  | inr ne ↦
      let t : (phase_of p o c == q) ≡ false = ne_eqb _ _ ne in
      let u : (phase_of p a c == (q + (o + p - a)) % p) ≡ false =
      ne_eqb _ _ (λ e. ne (apart p _ q (o + p - a) (phase_small p o c lo) lq (omega arith) (sym (told_by p o a c lo la) ∙ e))) in
      u ∙ sym t
]

-- a bit that tests the other counter for the word of a phase is 1 in that phase
pub at_is : (run : List Clock) (y r p o a q start : ℕ) → o < p → a < p → q < p → HasWords run start r (phase_of p a) → IsAt run y r ((q + (o + p - a)) % p)
    → HasWords run start y (λ c. if phase_of p o c == q then 1 else 0)
at_is run y r p o a q start lo la lq counts tests c h =
    rw (counts c h) at (tests (start + c) h) ∙ ap (λ (t : Bool). if t then 1 else 0) (shows_phase p o a q c lo la lq)

-- ---- the first clocks of each period

phase_first : (p o : ℕ) → phase_of p o 0 ≡ (p - o) % p
unfolding phase_of
phase_first p o = ap (λ n. (n - o) % p) (zero-add p)

-- one more clock
phase_next : (p o w c : ℕ) → o < p → p ≤ 2 ^ w → (if phase_of p o c == p - 1 then 0 else phase_of p o c + 1) ≡ phase_of p o (c + 1)
phase_next p o w c less wide =
    let more = phase_more p o w c less wide in
    elim (cases_eq (phase_of p o c) (p - 1)) [
      | inl e ↦ (let t : (phase_of p o c == p - 1) ≡ true = eq-eqb _ _ e in rw t (rw t at more))
      | inr ne ↦
          let t : (phase_of p o c == p - 1) ≡ false = ne_eqb _ _ ne in
          let small : phase_of p o c < p = phase_small p o c less in
          let fits : phase_of p o c + 1 < 2 ^ w = omega arith in
          rw t (sym (mod-eq_of_lt fits) ∙ rw t at more)
    ]

-- the first clock alone comes after the last phase
one_ahead : (h p : ℕ) → ◌≡◌ {A = ℕ} (if h == p - 1 then 1 else 0) (if nat_lt (if h == p - 1 then 0 else h + 1) 1 then 1 else 0)
one_ahead h p = by (h == p - 1)
  where
    later : nat_lt (h + 1) 1 ≡ false
    later = let ge : 1 ≤ h + 1 = omega arith in search rules

    by : (t : Bool) → ◌≡◌ {A = ℕ} (if t then 1 else 0) (if nat_lt (if t then 0 else h + 1) 1 then 1 else 0)
    by true = refl
    by false = rw later refl

below_last : (h from : ℕ) → h < from → h ≢ from - 1 → h + 1 < from
below_last h from l ne = elim (cases_lt (h + 1) from) [ inl less ↦ less | inr ge ↦ absurd (ne (omega arith)) ]

-- the mark turns after the last phase, and after the last one that is marked
turns_ahead : (h p from : ℕ) → h < p → 1 ≤ from → from < p
    → ◌≡◌ {A = ℕ} (if (if (if nat_lt h from then 1 else 0) == (if h == p - 1 then 1 else 0) then 1 else 0) == (if h == from - 1 then 1 else 0) then 1 else 0)
    (if nat_lt (if h == p - 1 then 0 else h + 1) from then 1 else 0)
turns_ahead h p from lh some less = elim (cases_eq h (p - 1)) [
  | inl e ↦
      let a : (h == p - 1) ≡ true = eq-eqb _ _ e in
      let b : (h == from - 1) ≡ false = ne_eqb _ _ (λ x. absurd (omega (arith, e, x))) in
      let past : from ≤ h = omega (arith, e) in
      let d : nat_lt h from ≡ false = search rules in
      let low : 0 < from = omega arith in
      let f : nat_lt 0 from ≡ true = search rules in
      rw (a, b, d, f) refl
  | inr ne ↦
      let a : (h == p - 1) ≡ false = ne_eqb _ _ ne in
      elim (cases_eq h (from - 1)) [
        | inl e ↦
            let b : (h == from - 1) ≡ true = eq-eqb _ _ e in
            let low : h < from = omega (arith, e) in
            let d : nat_lt h from ≡ true = search rules in
            let past : from ≤ h + 1 = omega (arith, e) in
            let f : nat_lt (h + 1) from ≡ false = search rules in
            rw (a, b, d, f) refl
        | inr other ↦
            let b : (h == from - 1) ≡ false = ne_eqb _ _ other in
            elim (cases_lt h from) [
              | inl l ↦
                  let d : nat_lt h from ≡ true = search rules in
                  let low : h + 1 < from = below_last h from l other in
                  let f : nat_lt (h + 1) from ≡ true = search rules in
                  rw (a, b, d, f) refl
              | inr ge ↦
                  let d : nat_lt h from ≡ false = search rules in
                  let past : from ≤ h + 1 = omega arith in
                  let f : nat_lt (h + 1) from ≡ false = search rules in
                  rw (a, b, d, f) refl
            ]
      ]
]

-- a register that begins with its first bit, and has in each clock after it what follows from that of the clock before
marks_all : (run : List Clock) (y rst p o from start : ℕ) → IsReset run rst start
    → ((t : ℕ) → t + 1 < length run → word_at run t rst ≡ 1 → word_at run (t + 1) y ≡ (if nat_lt ((p - o) % p) from then 1 else 0))
    → ((c : ℕ) → start + c + 1 < length run → word_at run (start + c) rst ≡ 0 → word_at run (start + c) y ≡ (if nat_lt (phase_of p o c) from then 1 else 0)
    → word_at run (start + c + 1) y ≡ (if nat_lt (phase_of p o (c + 1)) from then 1 else 0))
    → MarksPhases run start y p o from
marks_all run y rst p o from zero reset first next c h = (let some : 1 ≤ 0 = reset.some in absurd (omega arith))
marks_all run y rst p o from (suc s) reset first next zero h =
    let l : s + 1 < length run = omega arith in
    let high : word_at run s rst ≡ 1 = reset.high s (omega arith) (omega arith) in
    let at : suc s + 0 ≡ s + 1 = omega arith in
    rw (at, phase_first p o) (first s l high)
marks_all run y rst p o from (suc s) reset first next (suc c) h =
    let l : suc s + c + 1 < length run = omega arith in
    let low : word_at run (suc s + c) rst ≡ 0 = reset.low (suc s + c) (omega arith) (omega arith) in
    let before = marks_all run y rst p o from (suc s) reset first next c (omega arith) in
    let at : suc s + suc c ≡ suc s + c + 1 = omega arith in
    rw (at, ← add-one c) (next c l low before)

pub begins_marks : (run : List Clock) (y rst x p o w start : ℕ) → o < p → p ≤ 2 ^ w → HasWords run start x (λ c. if phase_of p o c == p - 1 then 1 else 0)
    → BeginsWith run y rst (if nat_lt ((p - o) % p) 1 then 1 else 0) x → IsReset run rst start → MarksPhases run start y p o 1
begins_marks run y rst x p o w start less wide ends begins reset =
    marks_all run y rst p o 1 start reset
    (λ t l high. (let e = begins t l in rw high at e))
    (λ c l low before.
    let e = begins (start + c) l in
    rw (low, ends c (omega arith)) at e ∙ (one_ahead (phase_of p o c) p ∙ ap (λ n. if nat_lt n 1 then 1 else 0) (phase_next p o w c less wide)))

pub turns_mark : (run : List Clock) (y rst a b p o w from start : ℕ) → o < p → p ≤ 2 ^ w → 1 ≤ from → from < p
    → HasWords run start a (λ c. if phase_of p o c == p - 1 then 1 else 0) → HasWords run start b (λ c. if phase_of p o c == from - 1 then 1 else 0)
    → Turns run y rst (if nat_lt ((p - o) % p) from then 1 else 0) a b → IsReset run rst start → MarksPhases run start y p o from
turns_mark run y rst a b p o w from start less wide some few ends leaves turns reset =
    marks_all run y rst p o from start reset
    (λ t l high. (let e = turns t l in rw high at e))
    (λ c l low before.
    let e = turns (start + c) l in
    rw (low, ends c (omega arith), leaves c (omega arith), before) at e
    ∙ (turns_ahead (phase_of p o c) p from (phase_small p o c less) some few ∙ ap (λ n. if nat_lt n from then 1 else 0) (phase_next p o w c less wide)))

some_more : (n : ℕ) → n ≢ 0 → 1 ≤ n
some_more n ne = elim (cases_lt n 1) [ inl l ↦ absurd (ne (omega arith)) | inr ge ↦ ge ]

-- in periods of two clocks, the first alone
pub alternates : (run : List Clock) (y p o from start : ℕ) → from ≡ 1 → HasWords run start y (λ c. if phase_of p o c == 0 then 1 else 0)
    → MarksPhases run start y p o from
alternates run y p o from start e h c l =
    let z : ◌≡◌ {A = ℕ} (if phase_of p o c == 0 then 1 else 0) (if nat_lt (phase_of p o c) from then 1 else 0) = rw e (zero_below (phase_of p o c)) in h c l ∙ z
  where
    zero_below : (n : ℕ) → ◌≡◌ {A = ℕ} (if n == 0 then 1 else 0) (if nat_lt n 1 then 1 else 0)
    zero_below n = elim (cases_eq n 0) [
      | inl z ↦ rw z refl
      | inr ne ↦
          let a : (n == 0) ≡ false = ne_eqb _ _ ne in
          let past : 1 ≤ n = some_more n ne in
          let b : nat_lt n 1 ≡ false = search rules in
          rw (a, b) refl
    ]

-- never, or always
pub never_marks : (run : List Clock) (y p o start : ℕ) → ((t : ℕ) → t < length run → word_at run t y ≡ 0) → MarksPhases run start y p o 0
never_marks run y p o start h c l =
    let past : 0 ≤ phase_of p o c = omega arith in let t : nat_lt (phase_of p o c) 0 ≡ false = search rules in rw t (h (start + c) l)

pub always_marks : (run : List Clock) (y p o start : ℕ) → o < p → ((t : ℕ) → t < length run → word_at run t y ≡ 1) → MarksPhases run start y p o p
always_marks run y p o start less h c l =
    let small = phase_small p o c less in
    let t : nat_lt (phase_of p o c) p ≡ true = search rules in
    rw t (h (start + c) l)

-- what is marked is what the counter of these phases shows
pub marks_counter : (run : List Clock) (y r p o from start : ℕ) → HasWords run start r (phase_of p o) → MarksPhases run start y p o from
    → IsMark run start y r from
marks_counter run y r p o from start counts marks c l = rw (counts c l) (marks c l)

-- ---- one net after another

pub at_word_is : (r word bound at : ℕ) → bound ≡ word → at ≡ (if r == bound then 1 else 0) → at ≡ (if r == word then 1 else 0)
at_word_is r word bound at b e = rw (e, b) refl

xor_bits : (y a b : ℕ) → y < 2 → a < 2 → b < 2 → bit_xor (bit_xor y a) b ≡ (if (if y == a then 1 else 0) == b then 1 else 0)
xor_bits zero zero zero p q r = refl
xor_bits zero zero (suc zero) p q r = refl
xor_bits zero (suc zero) zero p q r = refl
xor_bits zero (suc zero) (suc zero) p q r = refl
xor_bits (suc zero) zero zero p q r = refl
xor_bits (suc zero) zero (suc zero) p q r = refl
xor_bits (suc zero) (suc zero) zero p q r = refl
xor_bits (suc zero) (suc zero) (suc zero) p q r = refl
xor_bits (suc (suc y)) a b p q r = absurd (omega arith)
xor_bits y (suc (suc a)) b p q r = absurd (omega arith)
xor_bits y a (suc (suc b)) p q r = absurd (omega arith)

-- the same by exclusive ors
pub turn_xor : (rst y a b once after begin next y' first : ℕ) → y < 2 → a < 2 → b < 2 → once ≡ bit_xor y a → after ≡ bit_xor once b → begin ≡ first
    → next ≡ (if rst == 1 then begin else after) → y' ≡ next
    → y' ≡ (if rst == 1 then first else (if (if y == a then 1 else 0) == b then 1 else 0))
turn_xor rst y a b once after begin next y' first p q r o f g n e = rw (e, n, g, f, o, xor_bits y a b p q r) refl
