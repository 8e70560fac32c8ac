-- A word that is moved up past 64 bits leaves nothing below the width.
use Rattle.std.proofs.Common.{mul_assoc, ℕ, ◌≡◌, ◌+◌, ◌-◌, ◌*◌, ◌%◌, ◌^◌, ◌≤◌, arith, sym, ◌∙◌, ap}
use Rattle.std.proofs.lemmas.Nat.{pow-add}
use Rattle.std.proofs.Math.Nat.{mul-mod_left}
use Rattle.ae_word.proofs.result.moved_up.Goals as goal

gone : (a by w : ℕ) → w ≤ by → 0 ≡ a * 2 ^ by % 2 ^ w
gone a by w h =
    let e : by ≡ (by - w) + w = omega arith in
    let p = pow-add 2 (by - w) w in
    let q : a * 2 ^ by ≡ (a * 2 ^ (by - w)) * 2 ^ w = ap (λ n. a * 2 ^ n) e ∙ (ap (λ n. a * n) p ∙ sym (mul_assoc a (2 ^ (by - w)) (2 ^ w))) in
    sym (ap (λ n. n % 2 ^ w) q ∙ mul-mod_left (a * 2 ^ (by - w)) (2 ^ w))

pub returns-else-by-lt64 : goal.returns-else-by-lt64
returns-else-by-lt64 c = gone _ _ _ (omega arith)
