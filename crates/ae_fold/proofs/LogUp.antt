-- The first power of two that is enough.
use Rattle.std.proofs.Common.{ℕ, zero, suc, ◌≡◌, ◌+◌, ◌^◌, ◌<◌, ◌≤◌, nat_le, true, false, arith, get_or}
use Rattle.std.specs.List.{range_with_len}
use Rattle.std.proofs.lemmas.List.FromFn.{get_or-range_with_len, length-range_with_len}
use Rattle.std.proofs.lemmas.List.Sums.{position_or_len_is}
use Rattle.std.proofs.lemmas.Bool.Decides.{nat_tests}
use Rattle.std.proofs.Math.Nat.{pow-succ'}
use Rattle.ae_ops.specs.Folds.{log_up}

-- a number is below its power of two
pub below_power : (n : ℕ) → n < 2 ^ n
below_power zero = omega arith
below_power (suc n) = omega (arith, below_power n, pow-succ' 2 n)

in_range : (n l : ℕ) → 1 ≤ n → ((k : ℕ) → k < l → 2 ^ k < n) → l < n
in_range n zero some least = omega arith
in_range n (suc l) some least = omega (arith, below_power l, least l (omega arith))

passes : (n m k : ℕ) → m ≡ k → n ≤ 2 ^ k → nat_le n (2 ^ m) ≡ true
passes n m k e h = let r : n ≤ 2 ^ m = rw e h in grind (arith, nat_tests)

fails : (n m k : ℕ) → m ≡ k → 2 ^ k < n → nat_le n (2 ^ m) ≡ false
fails n m k e h = let r : 2 ^ m < n = rw e h in grind (arith, nat_tests)

-- the least power that is enough is the first
pub log_up_is : (n l : ℕ) → 1 ≤ n → n ≤ 2 ^ l → ((k : ℕ) → k < l → 2 ^ k < n) → log_up n ≡ l
unfolding log_up
log_up_is n l some enough least =
    let l_in : l < n = in_range n l some least in
    let at : (k : ℕ) → k < n → get_or (range_with_len 0 n) k 0 ≡ k = λ k below.
    (let e : get_or (range_with_len 0 n) k 0 ≡ 0 + k = get_or-range_with_len 0 n k 0 below in omega arith) in
    position_or_len_is (λ k. nat_le n (2 ^ k)) (range_with_len 0 n) l 0 (omega (arith, length-range_with_len 0 n))
    (λ k below. fails n (get_or (range_with_len 0 n) k 0) k (at k (omega arith)) (least k below))
    (λ below. passes n (get_or (range_with_len 0 n) l 0) l (at l l_in) enough)
