-- The cells of a line, and its taps as the netlist grows.
use Rattle.std.proofs.Common.{ℕ, zero, suc, ◌≡◌, ◌+◌, ◌*◌, ◌/◌, ◌<◌, ◌≤◌, nat_lt, nat_le, min, ◌&&◌, if◌then◌else◌, cond, Bool, true, false, inl, inr, List, [], ◌∷◌, ◌++◌, take, length, count_by, get_or, arith, refl, ap, ◌∙◌, rules}
use Rattle.std.proofs.lemmas.Bool.{cases_lt}
use Rattle.std.proofs.lemmas.List.{take_more}
use Rattle.std.proofs.lemmas.List.Sums.{sum_by-cons}
use Rattle.ae_netlist.specs.declared.cell.NetId.{NetId}
use Rattle.ae_netlist.specs.declared.cell.SizedCell.{SizedCell}
use Rattle.ae_netlist.specs.Circuit.{Extends}
use Rattle.ae_netlist.proofs.Counting.{count_push}
use Rattle.ae_clocked.specs.Delays.{AreDelays, AreTaps}
use Rattle.ae_clocked.proofs.Late.{delay_grows}
use Rattle.ae_clocked.specs.Rings.{rings}
use Rattle.ae_clocked.proofs.Making.{tap_grows}

pub near_is : (tap n : ℕ) → n ≡ (if nat_lt tap 8 then tap else 0) → (n < 8) × (n ≤ tap) × (tap < 8 → tap ≤ n)
near_is tap n e = elim (cases_lt tap 8) [
  | inl l ↦ (let t : nat_lt tap 8 ≡ true = search rules in let is : n ≡ tap = e ∙ rw t refl in (omega arith, omega arith, λ small. omega arith))
  | inr ge ↦ (let t : nat_lt tap 8 ≡ false = search rules in let is : n ≡ 0 = e ∙ rw t refl in (omega arith, omega arith, λ small. omega arith))
]

-- a tap that is far has rings
pub rings_far : (most : ℕ) → 8 ≤ most → rings most ≡ (most + 4095) / 4096
rings_far most far = let t : nat_lt most 8 ≡ false = search rules in rw t refl

rings_near : (most : ℕ) → most < 8 → rings most ≡ 0
rings_near most near = let t : nat_lt most 8 ≡ true = search rules in rw t refl

pub far_within : (most tap count : ℕ) → 8 ≤ tap → tap ≤ most → count ≡ rings most → tap ≤ 4096 * count
far_within most tap count far within long =
    let is : rings most ≡ (most + 4095) / 4096 = rings_far most (omega arith) in
    omega (arith, is, long)

-- eight cells for each clock of delay are enough for registers and rings
pub room : (near most : ℕ) → near < 8 → near ≤ most → near + 18 * rings most ≤ 8 * most
room near most small less = elim (cases_lt most 8) [
  | inl l ↦ (let none : rings most ≡ 0 = rings_near most l in omega (arith, none))
  | inr ge ↦ (let is : rings most ≡ (most + 4095) / 4096 = rings_far most ge in omega (arith, is))
]

count_cons : (p : ℕ → Bool) (x : ℕ) (xs : List ℕ) → count_by p (x ∷ xs) ≡ cond (p x) 1 0 + count_by p xs
count_cons p x xs = sum_by-cons (λ y. cond (p y) 1 0) x xs

-- a part has no more than all
pub count_part : (p : ℕ → Bool) (n : ℕ) (xs : List ℕ) → count_by p (take n xs) ≤ count_by p xs
count_part p zero xs = omega arith
count_part p (suc n) [] = omega arith
count_part p (suc n) (x ∷ xs) = omega (arith, count_cons p x xs, count_cons p x (take n xs), count_part p n xs)

four_of : (b : Bool) → (if b then 4 else 0) ≡ 4 * cond b 1 0
four_of true = refl
four_of false = refl

-- one tap more
pub count_more : (taps : List ℕ) (i tap : ℕ) → i < length taps → get_or taps i 0 ≡ tap
    → 4 * count_by (λ (t : ℕ). nat_lt 0 t) (take i taps) + (if nat_lt 0 tap then 4 else 0) ≡ 4 * count_by (λ (t : ℕ). nat_lt 0 t) (take (i + 1) taps)
count_more taps i tap l e =
    let more : take (i + 1) taps ≡ take i taps ++ tap ∷ [] = take_more taps i 0 l ∙ ap (λ v. take i taps ++ v ∷ []) e in
    let pushed : count_by (λ (t : ℕ). nat_lt 0 t) (take (i + 1) taps) ≡ count_by (λ (t : ℕ). nat_lt 0 t) (take i taps) + cond (nat_lt 0 tap) 1 0 =
    ap (count_by (λ (t : ℕ). nat_lt 0 t)) more ∙ count_push (λ (t : ℕ). nat_lt 0 t) (take i taps) tap in
    omega (arith, pushed, four_of (nat_lt 0 tap))

pub delays_grow : {a b : List SizedCell} {w x : ℕ} {nets : List NetId} → Extends a b → AreDelays a w x nets → AreDelays b w x nets
delays_grow g h = record { each = λ k y found. delay_grows g (h.each k y found) }

pub taps_grow : {a b : List SizedCell} {rst w x : ℕ} {taps : List ℕ} {nets : List NetId} → Extends a b → AreTaps a rst w x taps nets
    → AreTaps b rst w x taps nets
taps_grow g h = record { long = h.long; each = λ k d y at found. tap_grows g (h.each k d y at found) }

-- a register is taken where one is to spare, and for a far tap
pub spare_taken : (spare tap : ℕ) → (if nat_lt 0 spare && nat_le 8 tap then 1 else 0) ≤ min spare (min (tap / 8) 1)
spare_taken spare tap = elim (cases_lt 0 spare) [
  | inl some ↦ (let t : nat_lt 0 spare ≡ true = search rules in elim (cases_lt tap 8) [
    | inl near ↦ (let u : nat_le 8 tap ≡ false = search rules in rw (t, u) (omega arith))
    | inr far ↦ (let u : nat_le 8 tap ≡ true = search rules in rw (t, u) (omega arith))
  ])
  | inr none ↦ (let t : nat_lt 0 spare ≡ false = search rules in rw t (omega arith))
]
