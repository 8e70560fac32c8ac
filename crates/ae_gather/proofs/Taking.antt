-- A held word is the one that a choice of any age takes.
use Rattle.std.proofs.Common.{ℕ, ◌≡◌, ◌+◌, ◌-◌, ◌*◌, ◌<◌, ◌≤◌, ◌/◌, ◌%◌, List, length, arith, sym, ap, ◌∙◌}
use Rattle.std.proofs.lemmas.Nat.{mod_below}
use Rattle.std.proofs.Math.Nat.{add-mul-mod_self_left, div-add-mod, mod-add-mod, mod-eq_of_lt}
use Rattle.ae_netlist.specs.Runs.{Clock, word_at}
use Rattle.ae_clocked.specs.Phases.{phase_of}
use Rattle.ae_columns.specs.Held.{Holds}
use Rattle.ae_clocked.proofs.Marked.{apart}

-- in phase p the word of age p + d - k stood in the phase that belongs to clock k of the input's block
pub phase_back : (t o d k p a c : ℕ) → o < t → p < t → k ≤ p + d → p + d - k ≡ a → a ≤ t → a ≤ c → phase_of t o c ≡ p
    → phase_of t o (c - a) ≡ (k + t - d % t) % t
unfolding phase_of
phase_back t o d k p a c lo lp reached age within old at =
    let n : ℕ = c - a + t - o in
    let q : ℕ = k + t - d % t in
    let all : c + t - o ≡ n + a = omega arith in
    let left : (n % t + a) % t ≡ p = mod-add-mod n t a ∙ (ap (λ m. m % t) (sym all) ∙ at) in
    let rest : d % t < t = mod_below d t (omega arith) in
    let parts : t * (d / t) + d % t ≡ d = div-add-mod d t in
    let sum : q + a ≡ p + t * (1 + d / t) = omega (arith, parts, rest, age) in
    let right : (q % t + a) % t ≡ p = mod-add-mod q t a ∙ (ap (λ m. m % t) sum ∙ (add-mul-mod_self_left p t (1 + d / t) ∙ mod-eq_of_lt lp)) in
    let small : n % t < t = mod_below n t (omega arith) in
    let less : q % t < t = mod_below q t (omega arith) in
    apart t (n % t) (q % t) a small less (omega arith) (left ∙ sym right)

-- so a register that holds the word of that phase has the word of any age from 1 on
pub held_word : (run : List Clock) (start y x t o d k p a c : ℕ) → o < t → p < t → k ≤ p + d → p + d - k ≡ a → 1 ≤ a → a ≤ t → a ≤ c → phase_of t o c ≡ p
    → Holds run start y x t o ((k + t - d % t) % t) → start + c < length run → word_at run (start + c) y ≡ word_at run (start + (c - a)) x
held_word run start y x t o d k p a c lo lp reached age late within old at holds l =
    let back : phase_of t o (c - a) ≡ (k + t - d % t) % t = phase_back t o d k p a c lo lp reached age within old at in
    let here : c - a + a ≡ c = omega arith in
    let inside : start + (c - a + a) < length run = omega arith in
    rw here at (holds (c - a) a back late within inside)
