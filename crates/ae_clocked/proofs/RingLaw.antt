-- What is read from a ring is what was written some clocks before.
use Rattle.std.proofs.Common.{ℕ, zero, suc, ◌≡◌, ◌≢◌, ◌+◌, ◌-◌, ◌*◌, ◌<◌, ◌≤◌, ◌%◌, ◌/◌, List, length, set, get_or, inl, inr, arith, sym, ap, ◌∙◌, get_or-set_other, get_or-set_same}
use Rattle.std.proofs.lemmas.Bool.{cases_eq, cases_lt}
use Rattle.std.proofs.Math.Nat.{add-mod_right, mod-add-mod, div-add-mod, mul-le-mul_left}
use Rattle.std.proofs.lemmas.Nat.{mod_below}
use Rattle.ae_netlist.specs.declared.cell.SizedCell.{SizedCell}
use Rattle.ae_netlist.specs.Runs.{Clock, word_at, store_at, HasWords}
use Rattle.ae_clocked.specs.Signals.{IsLater, IsNextOf}
use Rattle.ae_clocked.specs.Delays.{IsTap}
use Rattle.ae_clocked.specs.Rings.{IsStore, IsLook}

-- clocks that are less than a period apart have different phases
pub phases_differ : (d s c : ℕ) → s < c → c < s + d → s % d ≢ c % d
phases_differ d s c l h e =
    let a : d * (s / d) + s % d ≡ s = div-add-mod s d in
    let b : d * (c / d) + c % d ≡ c = div-add-mod c d in
    elim (cases_lt (s / d) (c / d)) [
      | inl less ↦
          let m : d * (s / d + 1) ≤ d * (c / d) = mul-le-mul_left d (omega arith) in
          omega (arith, a, b, m)
      | inr more ↦
          let m : d * (c / d) ≤ d * (s / d) = mul-le-mul_left d more in
          omega (arith, a, b, m)
    ]

-- one more word is written
pub one_more : (store : List ℕ) (d s c x y : ℕ) → length store ≡ d → s ≤ c → c < s + d → (s < c → get_or store (s % d) 0 ≡ y) → (s ≡ c → x ≡ y)
    → get_or (set store (c % d) x) (s % d) 0 ≡ y
one_more store d s c x y long le h before now = elim (cases_eq s c) [
  | inl e ↦
      let small : c % d < d = mod_below c d (omega arith) in
      let lt : c % d < length store = omega arith in
      rw e (rw get_or-set_same (now e))
  | inr ne ↦
      let l : s < c = omega arith in
      let far : s % d ≢ c % d = phases_differ d s c l h in
      rw get_or-set_other (before l)
]

-- in clock c the ring has the word of each of the last d clocks
pub ring_holds : (run : List Clock) (m at x d start c s : ℕ) → IsStore run m at x d → HasWords run start at (λ k. k % d) → s < c → c ≤ s + d
    → start + c < length run
    → get_or (store_at run (start + c) m) (s % d) 0 ≡ word_at run (start + s) x
ring_holds run m at x d start zero s store counts l h w = absurd (omega arith)
ring_holds run m at x d start (suc c) s store counts l h w =
    let v : start + c + 1 < length run = omega arith in
    let next : start + suc c ≡ start + c + 1 = omega arith in
    let takes = store.takes (start + c) v in
    let place : word_at run (start + c) at ≡ c % d = counts c (omega arith) in
    let long : length (store_at run (start + c) m) ≡ d = store.long (start + c) (omega arith) in
    rw (next, takes, place)
    (one_more (store_at run (start + c) m) d s c (word_at run (start + c) x) (word_at run (start + s) x) long (omega arith) (omega arith)
    (λ less. ring_holds run m at x d start c s store counts less (omega arith) (omega arith))
    (λ e. ap (λ k. word_at run (start + k) x) (sym e)))

-- a look so many places behind the counter has the word of so many clocks before
pub look_later : (run : List Clock) (m at from x y d tap k start : ℕ) → IsStore run m at x d → HasWords run start at (λ c. c % d) → IsLook run y m from
    → ((t : ℕ) → t < length run → word_at run t from ≡ (word_at run t at + k) % d) → k + tap ≡ d → 1 ≤ tap → IsLater run start y x tap
look_later run m at from x y d tap k start store counts look adds e some = λ c le l.
    let place : word_at run (start + c) at ≡ c % d = counts c l in
    let far : c + k ≡ (c - tap) + d = omega arith in
    let at_from : word_at run (start + c) from ≡ (c - tap) % d = adds (start + c) l ∙
    (ap (λ p. (p + k) % d) place ∙ (mod-add-mod c d k ∙ (ap (λ n. n % d) far ∙ add-mod_right (c - tap) d))) in
    look (start + c) l ∙ (ap (λ p. get_or (store_at run (start + c) m) p 0) at_from ∙
    ring_holds run m at x d start c (c - tap) store counts (omega arith) (omega arith) l)

-- a register of it has the word of one clock more
pub register_later : (run : List Clock) (y z x tap start : ℕ) → IsLater run start y x tap → IsNextOf run z y → IsLater run start z x (tap + 1)
register_later run y z x tap start later next = λ c le l.
    let at : start + c ≡ start + (c - 1) + 1 = omega arith in
    let back : c - 1 - tap ≡ c - (tap + 1) = omega arith in
    rw at (next (start + (c - 1)) (omega arith) ∙ (later (c - 1) (omega arith) (omega arith) ∙ ap (λ n. word_at run (start + n) x) back))

-- a tap of a tap is as late as both together
pub taps_add : (cells : List SizedCell) (rst w x y z d e : ℕ) → IsTap cells rst w x d y → IsTap cells rst w y e z → IsTap cells rst w x (d + e) z
taps_add cells rst w x y z d e p q = record {
  net = q.net;
  words = λ all ex run r start reset c le l.
      let back : c - e - d ≡ c - (d + e) = omega arith in
      q.words all ex run r start reset c (omega arith) l
      ∙ (p.words all ex run r start reset (c - e) (omega arith) (omega arith) ∙ ap (λ n. word_at run (start + n) x) back);
}
