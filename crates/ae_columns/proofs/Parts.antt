-- A sum of a first part is at most that of more.
use Rattle.std.proofs.Common.{ℕ, zero, suc, ◌≡◌, ◌+◌, ◌≤◌, sum_by, arith, sym, subst}
use Rattle.std.specs.List.{range_with_len}
use Rattle.ae_moves.proofs.Held.{sum_more}

pub sums_part : (f : ℕ → ℕ) (k j : ℕ) → sum_by f (range_with_len 0 k) ≤ sum_by f (range_with_len 0 (k + j))
sums_part f k zero = let e : k + 0 ≡ k = omega arith in rw e (omega arith)
sums_part f k (suc j) =
    let e : k + suc j ≡ k + j + 1 = omega arith in
    let more : sum_by f (range_with_len 0 k) ≤ sum_by f (range_with_len 0 (k + j + 1)) = omega (arith, sum_more f (k + j), sums_part f k j) in
    subst (λ (i : ℕ). sum_by f (range_with_len 0 k) ≤ sum_by f (range_with_len 0 i)) (sym e) more
