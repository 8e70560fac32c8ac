-- How many rows a text has, and sizes by rows.
use Rattle.std.proofs.Common.{ℕ, zero, suc, ◌≡◌, ◌+◌, ◌*◌, ◌/◌, ◌<◌, ◌≤◌, List, [], ◌∷◌, length, Bool, true, false, nat_eq, if◌then◌else◌, arith, ap, ◌∙◌}
use Rattle.std.proofs.lemmas.Nat.{div-mul-add}
use Rattle.ae_fields.specs.Cut.{lines, put, fields, said}
use Rattle.ae_fields.specs.Rows.{rows, rows_of, with_row}

pub few_put : (b : ℕ) (ls : List (List ℕ)) (n : ℕ) → length ls ≤ n → length (put b ls) ≤ suc n
few_put b [] n h = omega arith
few_put b (l ∷ ls) n h = omega (arith, h)

pub few_lines : (text : List ℕ) → length (lines text) ≤ length text
few_lines [] = omega arith
few_lines (b ∷ bs) = by (nat_eq b 10) (few_lines bs)
  where
    by : (t : Bool) → length (lines bs) ≤ length bs → length (if t then [] ∷ lines bs else put b (lines bs)) ≤ suc (length bs)
    by true h = omega (arith, h)
    by false h = few_put b (lines bs) (length bs) h

pub few_with : (r : List (List ℕ)) (rs : List (List (List ℕ))) → length (with_row r rs) ≤ suc (length rs)
few_with [] rs = omega arith
few_with (f ∷ fs) rs = omega arith

pub few_rows_of : (ls : List (List ℕ)) → length (rows_of ls) ≤ length ls
few_rows_of [] = omega arith
few_rows_of (l ∷ ls) =
    let a : length (with_row (fields (said l)) (rows_of ls)) ≤ suc (length (rows_of ls)) = few_with (fields (said l)) (rows_of ls) in
    let b : length (rows_of ls) ≤ length ls = few_rows_of ls in
    omega (arith, a, b)

pub few_rows : (text : List ℕ) → length (rows text) ≤ length text
few_rows text =
    let a : length (rows_of (lines text)) ≤ length (lines text) = few_rows_of (lines text) in
    let b : length (lines text) ≤ length text = few_lines text in
    omega (arith, a, b)

pub divided : (b n : ℕ) → 0 < n → b * n / n ≡ b
divided b n h =
    let e : b * n ≡ b * n + 0 = omega arith in
    ap (λ k. k / n) e ∙ div-mul-add b n 0 h

pub mul-le : (a b c : ℕ) → b ≤ c → a * b ≤ a * c
mul-le zero b c h = omega arith
mul-le (suc a) b c h =
    let rest : a * b ≤ a * c = mul-le a b c h in
    let x : suc a * b ≡ b + a * b = omega arith in
    let y : suc a * c ≡ c + a * c = omega arith in
    omega (arith, rest, x, y, h)
