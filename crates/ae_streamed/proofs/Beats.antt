-- In which clocks of a block elements stand, level by level of a layout.
use Rattle.std.proofs.Common.{ℕ, zero, suc, ◌≡◌, ◌+◌, ◌-◌, ◌*◌, ◌/◌, ◌%◌, ◌<◌, ◌≤◌, List, [], ◌∷◌, length, get_or, Bool, true, false, Any, arith, refl, sym, ap, ◌∙◌}
use Rattle.std.specs.Prelude.{◌&&◌, ◌||◌, ◌==◌, nat_lt, bit_and, bit_or, if◌then◌else◌}
use Rattle.std.proofs.lemmas.Bool.{eq-eqb, eqb-true}
use Rattle.std.proofs.lemmas.Nat.{div-add-mod', mod_below, div_below, mod-mul-add, mul-le}
use Rattle.ae_sttype.specs.declared.st_type.Slot.{Slot}
use Rattle.ae_sttype.specs.StTree.{StTree, tseq, sseq, time}
use Rattle.ae_sttype.specs.Size.{HasLengths}
use Rattle.ae_sttype.specs.Slots.{IsLive, slots}
use Rattle.ae_sttype.proofs.Bounds.{time_pos}
use Rattle.ae_sttype.proofs.Lively.{live_sseq, live_tseq, of_live_tseq}
use Rattle.ae_clocked.specs.Phases.{phase_of}
use Rattle.ae_stream.specs.Streams.{in_clock}
use Rattle.ae_stream.proofs.Flags.{lt_is}
use Rattle.ae_stream.proofs.Rate.{or_true}

-- ---- a clock in which an element stands

live_in : (ws : List Slot) (c : ℕ) → in_clock ws c ≡ true → Any (λ (w : Slot). w.clock ≡ c) ws
live_in [] c h = (let e : false ≡ true = h in cc)
live_in (w ∷ ws) c h = step (λ k. live_in ws c k) (w.clock == c) refl h
  where
    step : (in_clock ws c ≡ true → Any (λ (w : Slot). w.clock ≡ c) ws) → (b : Bool) → (w.clock == c) ≡ b → (b || in_clock ws c) ≡ true
        → Any (λ (w : Slot). w.clock ≡ c) (w ∷ ws)
    step more true e h = (0, w, omega arith, refl, eqb-true w.clock c e)
    step more false e h = (let a = more h in (suc a.0, a.1, omega (arith, a.2), a.3, a.4))

clock_in : (ws : List Slot) (c i : ℕ) (x : Slot) → i < length ws → get_or ws i x ≡ x → x.clock ≡ c → in_clock ws c ≡ true
clock_in [] c i x l e h = absurd (omega arith)
clock_in (w ∷ ws) c zero x l e h = ap (λ b. b || in_clock ws c) (eq-eqb w.clock c (ap (λ (v : Slot). v.clock) e ∙ h))
clock_in (w ∷ ws) c (suc i) x l e h = ap (λ b. (w.clock == c) || b) (clock_in ws c i x (omega arith) e h) ∙ or_true (w.clock == c)

pub in_live : (s : StTree) (c : ℕ) → IsLive s c → in_clock (slots s) c ≡ true
in_live s c h = clock_in (slots s) c h.0 h.1 h.2 h.3 h.4

pub live_of : (s : StTree) (c : ℕ) → in_clock (slots s) c ≡ true → IsLive s c
live_of s c h = live_in (slots s) c h

same_bits : (a b : Bool) → (a ≡ true → b ≡ true) → (b ≡ true → a ≡ true) → a ≡ b
same_bits true b f g = sym (f refl)
same_bits false true f g = g refl
same_bits false false f g = refl

pub is_lt : (a b : ℕ) → nat_lt a b ≡ true → a < b
is_lt a b h = grind (arith, h)

pub both_true : (a b : Bool) → (a && b) ≡ true → (a ≡ true) × (b ≡ true)
both_true true b h = (refl, h)
both_true false b h = (let e : false ≡ true = h in absurd (grind (arith, e)))

below_div : (x n k : ℕ) → 0 < k → x < n * k → x / k < n
below_div x n k some l = div_below x k n some l

of_div : (x n k : ℕ) → 0 < k → x / k < n → x < n * k
of_div x n k some l =
    let q : (x / k + 1) * k ≤ n * k = mul-le (x / k + 1) k n k (omega arith) (omega arith) in
    omega (arith, div-add-mod' x k, mod_below x k some, q)

pub in_slots_later : (n i : ℕ) (t : StTree) (x : ℕ) → HasLengths (tseq n i t)
    → in_clock (slots (tseq n i t)) x ≡ (nat_lt x (n * time t) && in_clock (slots t) (x % time t))
in_slots_later n i t x h =
    let some : 0 < time t = time_pos t h.1 in
    same_bits _ _
    (λ e. (let a = of_live_tseq (tseq n i t) t n i x refl h (live_of (tseq n i t) x e) in
    let p : nat_lt x (n * time t) ≡ true = lt_is x (n * time t) (of_div x n (time t) some a.0) in
    let q : in_clock (slots t) (x % time t) ≡ true = in_live t (x % time t) a.1 in
    ap (λ b. b && in_clock (slots t) (x % time t)) p ∙ q))
    (λ e. (let b = both_true _ _ e in
    in_live (tseq n i t) x (live_tseq (tseq n i t) t n i x refl h (below_div x n (time t) some (is_lt x (n * time t) b.0)) (live_of t (x % time t) b.1))))

pub in_slots_across : (n : ℕ) (t : StTree) (x : ℕ) → HasLengths (sseq n t) → in_clock (slots (sseq n t)) x ≡ in_clock (slots t) x
in_slots_across n t x h =
    let a = live_sseq (sseq n t) t n x refl h in
    same_bits _ _ (λ e. in_live t x (a.1 (live_of (sseq n t) x e))) (λ e. in_live (sseq n t) x (a.0 (live_of t x e)))

-- ---- phases

-- a number and one that is a multiple more have the same rest
pub more_mod : (a k m : ℕ) → 0 < k → (m * k + a) % k ≡ a % k
more_mod a k m some =
    let e : m * k + a ≡ (m + a / k) * k + a % k = omega (arith, div-add-mod' a k) in
    ap (λ n. n % k) e ∙ mod-mul-add (m + a / k) k (a % k) (mod_below a k some)

-- the rest by a multiple of k, by k
twice_mod : (a k m : ℕ) → 0 < k → 0 < m → (a % (m * k)) % k ≡ a % k
twice_mod a k m some many =
    let p : ℕ = m * k in
    let e : a ≡ (a / p * m) * k + a % p = omega (arith, div-add-mod' a p) in
    sym (ap (λ n. n % k) e ∙ more_mod (a % p) k (a / p * m) some)

-- the phase of a part, where the whole takes some times its clocks
pub phase_within : (k m offset c : ℕ) → 0 < k → 0 < m → offset < m * k → phase_of k (offset % k) c ≡ phase_of (m * k) offset c % k
unfolding phase_of
phase_within k m offset c some many l =
    let o : ℕ = offset % k in
    let d : ℕ = offset / k in
    let low : o < k = mod_below offset k some in
    let less : d < m = div_below offset k m some l in
    let is : d * k + o ≡ offset = div-add-mod' offset k in
    let split : (m - 1 - d) * k + (d * k + k) ≡ m * k = omega (arith, ap (λ n. n * k) (let z : m - 1 - d + (d + 1) ≡ m = omega arith in z)) in
    let e : c + m * k - offset ≡ (m - 1 - d) * k + (c + k - o) = omega (arith, split, is, low) in
    sym (twice_mod (c + m * k - offset) k m some many ∙ (ap (λ n. n % k) e ∙ more_mod (c + k - o) k (m - 1 - d) some))

-- ---- gates

pub and_words : (a b : Bool) → bit_and (if a then 1 else 0) (if b then 1 else 0) ≡ (if a && b then 1 else 0)
and_words true true = refl
and_words true false = refl
and_words false true = refl
and_words false false = refl

pub or_words : (a b : Bool) → bit_or (if a then 1 else 0) (if b then 1 else 0) ≡ (if a || b then 1 else 0)
or_words true true = refl
or_words true false = refl
or_words false true = refl
or_words false false = refl

-- the bit of a layout in time is that of its valid slots and of a part in each
pub slot_told : (n i : ℕ) (t : StTree) (offset c : ℕ) → HasLengths (tseq n i t) → offset < (n + i) * time t
    → (nat_lt (phase_of ((n + i) * time t) offset c) (n * time t) && in_clock (slots t) (phase_of (time t) (offset % time t) c)) ≡ in_clock
    (slots (tseq n i t)) (phase_of ((n + i) * time t) offset c)
slot_told n i t offset c h l =
    let many : 0 < n + i = omega (arith, h.0) in
    let x : ℕ = phase_of ((n + i) * time t) offset c in
    ap (λ p. nat_lt x (n * time t) && in_clock (slots t) p) (phase_within (time t) (n + i) offset c (time_pos t h.1) many l) ∙ sym (in_slots_later n i t x h)
