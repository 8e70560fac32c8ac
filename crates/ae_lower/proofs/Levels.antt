-- The levels of a tree, which two definitions count alike.
use Rattle.std.proofs.Common.{ℕ, zero, suc, ◌≡◌, ◌+◌, ◌^◌, ◌<◌, ◌≤◌, true, false, nat_lt, inl, inr, arith, refl, sym, ◌∙◌}
use Rattle.std.proofs.lemmas.Bool.{cases_lt}
use Rattle.ae_ops.specs.Folds.{log_up as levels_up}
use Rattle.ae_fold.proofs.LogUp.{log_up_is}
use Rattle.ae_delay.specs.OwnCosts.{least_power, log_up, where_many}
use Rattle.ae_delay.proofs.Owned.{power_next, power_found}

power_last : (n l : ℕ) → least_power n l zero ≡ l
unfolding least_power
power_last n l = refl

below_more : (n l : ℕ) → 2 ^ l < n → ((k : ℕ) → k < l → 2 ^ k < n) → (k : ℕ) → k < l + 1 → 2 ^ k < n
below_more n l last before k h = elim (cases_lt k l) [
  | inl low ↦ before k low
  | inr high ↦ (let same : k ≡ l = omega (arith, high, h) in rw same last)
]

same_levels : (n l more : ℕ) → 1 ≤ n → n ≤ 2 ^ (l + more) → ((k : ℕ) → k < l → 2 ^ k < n) → levels_up n ≡ least_power n l more
same_levels n l zero some enough before = (let z : l + zero ≡ l = omega arith in log_up_is n l some (rw z at enough) before ∙ sym (power_last n l))
same_levels n l (suc more) some enough before = elim (cases_lt (2 ^ l) n) [
  | inl low ↦ (let place : l + suc more ≡ l + 1 + more = omega arith in same_levels n (l + 1) more some (rw place at enough) (below_more n l low before) ∙
      sym (power_next n l more low))
  | inr high ↦ log_up_is n l some high before ∙ sym (power_found n l more high)
]

few_levels : (n l more : ℕ) → least_power n l more ≤ l + more
few_levels n l zero = omega (arith, power_last n l)
few_levels n l (suc more) = elim (cases_lt (2 ^ l) n) [
  | inl low ↦ omega (arith, few_levels n (l + 1) more, power_next n l more low)
  | inr high ↦ omega (arith, power_found n l more high)
]

pub log_same : (n : ℕ) → 1 ≤ n → n ≤ 4096 → levels_up n ≡ log_up n
unfolding log_up
log_same n some most = (let enough : n ≤ 8192 = omega (arith, most) in same_levels n 0 13 some enough (λ k low. absurd (omega (arith, low))))

pub log_few : (n : ℕ) → log_up n ≤ 13
unfolding log_up
log_few n = few_levels n 0 13

-- numbers that only count where there are more slots than one
many_more : (slots x : ℕ) → 1 < slots → where_many slots x ≡ x
many_more slots x h = (let t : nat_lt 1 slots ≡ true = search (arith) in rw t refl)

many_none : (slots x : ℕ) → slots ≤ 1 → where_many slots x ≡ 0
many_none slots x h = (let t : nat_lt 1 slots ≡ false = search (arith) in rw t refl)

pub many_same : (slots x y : ℕ) → (2 ≤ slots → x ≡ y) → where_many slots x ≡ where_many slots y
many_same slots x y h = elim (cases_lt 1 slots) [
  | inl more ↦ many_more slots x more ∙ (h (omega (arith, more)) ∙ sym (many_more slots y more))
  | inr few ↦ many_none slots x few ∙ sym (many_none slots y few)
]

pub many_few : (slots x m : ℕ) → x ≤ m → where_many slots x ≤ m
many_few slots x m h = elim (cases_lt 1 slots) [
  | inl more ↦ omega (arith, many_more slots x more, h)
  | inr few ↦ omega (arith, many_none slots x few)
]
