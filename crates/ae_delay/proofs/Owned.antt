-- The levels of a tree, and loads that nothing passes.
use Rattle.std.proofs.Common.{ℕ, suc, ◌≡◌, ◌+◌, ◌-◌, ◌*◌, ◌^◌, ◌<◌, ◌≤◌, inl, inr, nat_le, nat_lt, true, false, cond, Bool, ◌⊎◌, arith, refl, sym, ◌∙◌}
use Rattle.std.proofs.Math.Nat.{mul-le-mul, mul-le-mul_left, pow-suc}
use Rattle.std.proofs.Math.Pow.{pow_mono}
use Rattle.std.proofs.lemmas.Bool.{cases_lt}
use Rattle.ae_moves.specs.Rings.{rings}
use Rattle.ae_delay.specs.OwnCosts.{least_power, log_up, where_many}
use Rattle.ae_delay.specs.Bounds.{IsBounded}
use Rattle.ae_delay.specs.declared.own.OwnCosts.{OwnCosts}

pub log_start : (n : ℕ) → log_up n ≡ least_power n 0 13
unfolding log_up
log_start n = refl

pub power_next : (n l k : ℕ) → 2 ^ l < n → least_power n l (suc k) ≡ least_power n (l + 1) k
unfolding least_power
power_next n l k h = let t : nat_le n (2 ^ l) ≡ false = search (arith) in rw t refl

pub power_found : (n l k : ℕ) → n ≤ 2 ^ l → least_power n l (suc k) ≡ l
unfolding least_power
power_found n l k h = let t : nat_le n (2 ^ l) ≡ true = search (arith) in rw t refl

pub log_next : (n l leaves : ℕ) → log_up n ≡ least_power n l (13 - l) → leaves ≡ 2 ^ l → leaves < n → l < 12 → log_up n ≡ least_power n (l + 1) (13 - (l + 1))
log_next n l leaves h e more low =
    let s : 13 - l ≡ suc (13 - (l + 1)) = omega arith in
    let p : 2 ^ l < n = rw (← e) more in
    h ∙ (rw s (power_next n l (13 - (l + 1)) p))

pub log_found : (n l leaves : ℕ) → log_up n ≡ least_power n l (13 - l) → leaves ≡ 2 ^ l → n ≤ leaves → l ≤ 12 → log_up n ≡ l
log_found n l leaves h e more low =
    let s : 13 - l ≡ suc (12 - l) = omega arith in
    let p : n ≤ 2 ^ l = rw (← e) more in
    h ∙ (rw s (power_found n l (12 - l) p))

pub log_last : (n l leaves : ℕ) → log_up n ≡ least_power n l (13 - l) → leaves ≡ 2 ^ l → n ≤ 4096 → 12 ≤ l → l ≤ 12 → 12 ≡ log_up n
log_last n l leaves h e few low high =
    let at : l ≡ 12 = omega arith in
    let p : n ≤ 2 ^ l = rw at few in
    sym (log_found n l (2 ^ l) h refl p high ∙ at)

pub leaves_small : (l leaves : ℕ) → leaves ≡ 2 ^ l → l ≤ 12 → leaves ≤ 4096
leaves_small l leaves e h = let p : 2 ^ l ≤ 2 ^ 12 = pow_mono h in omega (arith, e, p)

double : (l : ℕ) → 2 ^ l * 2 ≡ 2 ^ (l + 1)
double l = let s : l + 1 ≡ suc l = omega arith in rw s (sym (pow-suc 2 l))

pub leaves_double : (l leaves : ℕ) → leaves ≡ 2 ^ l → l < 12 → (leaves * 2 ≡ 2 ^ (l + 1)) × (leaves * 2 ≤ 4096)
leaves_double l leaves e h =
    let d : leaves * 2 ≡ 2 ^ (l + 1) = rw e (double l) in
    (d, leaves_small (l + 1) (leaves * 2) d (omega arith))

pub rings_le : (a : ℕ) → rings a ≤ a
rings_le a = elim (cases_lt a 8) [
  | inl l ↦ (let t : nat_lt a 8 ≡ true = search (arith) in rw t (omega arith))
  | inr g ↦ (let t : nat_lt a 8 ≡ false = search (arith) in rw t (omega arith))
]

-- a number that stands where there is more than one slot, and another
many_by : (b : Bool) (x y m n : ℕ) → x ≡ cond b m 0 → y ≡ cond b n 0 → ((x ≡ m) × (y ≡ n)) ⊎ ((x ≡ 0) × (y ≡ 0))
many_by true x y m n p q = inl (p, q)
many_by false x y m n p q = inr (p, q)

many_both : (slots x y m n : ℕ) → x ≡ where_many slots m → y ≡ where_many slots n → ((x ≡ m) × (y ≡ n)) ⊎ ((x ≡ 0) × (y ≡ 0))
many_both slots x y m n p q = many_by (nat_lt 1 slots) x y m n p q

memories_le : (slots columns inner registers x y plus ring : ℕ) → ring ≡ rings inner → x ≡ where_many slots (plus + inner)
    → y ≡ where_many slots (columns * ring) → x ≤ registers → y ≤ columns * registers
memories_le slots columns inner registers x y plus ring r p q h = elim (many_both slots x y (plus + inner) (columns * ring) p q) [
  | inl e ↦ (let l : columns * ring ≤ columns * registers = mul-le-mul_left columns (omega (arith, rings_le inner, e.0, r)) in omega (arith, e.1, l))
  | inr e ↦ omega (arith, e.1)
]

abbrev pub owned : (latency load muls mems : ℕ) → OwnCosts
owned a b c d = record { latency = a; load = b; muls = c; mems = d }

pub scan_bounded : (slots columns lanes count inner sub one more thrice mul memory ring products : ℕ) → columns ≤ 16384 → lanes ≤ 4096 → count ≤ 12
    → inner ≤ 4096 → one ≤ 1 → more ≤ lanes → sub ≤ count * lanes → products ≡ sub + more → mul ≤ columns * products
    → ring ≡ rings inner → thrice ≤ 3 * lanes + inner → thrice ≡ where_many slots (3 * lanes + inner) → memory ≡ where_many slots (columns * ring)
    → IsBounded (owned (count + one) (1 + (count + one) + columns * (lanes * (1 + 2 * count) + thrice)) mul memory)
scan_bounded slots columns lanes count inner sub one more thrice mul memory ring products hc hl hk hi ho hm hs ep hp hr ht et em =
    let registers : ℕ = lanes * (1 + 2 * count) + thrice in
    let wide : lanes * (1 + 2 * count) ≤ 4096 * 25 = mul-le-mul {m₂ = 25} hl (omega arith) in
    let all : columns * registers ≤ 16384 * 118784 = mul-le-mul {m₂ = 118784} hc (omega arith) in
    let fewer : columns * products ≤ columns * registers = mul-le-mul_left columns (omega arith) in
    let mems : memory ≤ columns * registers = memories_le slots columns inner registers thrice memory (3 * lanes) ring hr et em (omega arith) in
    record { latency = omega arith; muls = omega (arith, fewer, hp); mems = omega (arith, mems); load = omega (arith, all) }
