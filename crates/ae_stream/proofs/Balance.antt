-- What passes, counted by the clocks before a clock.
use Rattle.std.proofs.Common.{ℕ, zero, suc, ◌≡◌, ◌+◌, ◌-◌, ◌*◌, ◌<◌, ◌≤◌, inl, inr, Bool, true, false, arith, refl, ap, sym, ◌∙◌}
use Rattle.std.specs.Prelude.{◌&&◌}
use Rattle.std.proofs.lemmas.Bool.{cases_lt}
use Rattle.ae_stream.specs.Passing.{carries, one_if, passing}
use Rattle.ae_stream.specs.Queue.{IsFair, next_one, next_two}
use Rattle.ae_stream.proofs.Counting.{whole_blocks}
use Rattle.ae_stream.proofs.Numbers.{passing_le}

-- where those of some numbers that pass too say so by how many of these are before them
pub counted : (both first number : ℕ → Bool) (n : ℕ) → ((t : ℕ) → t < n → both t ≡ (first t && number (passing first t)))
    → passing both n ≡ passing number (passing first n)
counted both first number zero h = refl
counted both first number (suc n) h = step (first n) (h n (omega arith)) (counted both first number n (λ t l. h t (omega arith)))
  where
    step : (v : Bool) → both n ≡ (v && number (passing first n)) → passing both n ≡ passing number (passing first n)
        → passing both n + one_if (both n) ≡ passing number (passing first n + one_if v)
    step true e before =
        let next : passing first n + 1 ≡ suc (passing first n) = omega arith in
        (λ i. before i + one_if (e i)) ∙ ap (passing number) (sym next)
    step false e before =
        let none : one_if (both n) ≡ 0 = ap one_if e in
        let same : passing first n + 0 ≡ passing first n = omega arith in
        omega (arith, before, none) ∙ ap (passing number) (sym same)

pub and_if : (v a b : Bool) → (v ≡ true → a ≡ b) → (v && a) ≡ (v && b)
and_if true a b e = e refl
and_if false a b e = refl

-- of a queue: what is taken out and what stands in it is what was put in
pub moved : (one two push pop : Bool) → IsFair one two push pop
    → one_if pop + (one_if (next_one one two push pop) + one_if (next_two one two push pop)) ≡ one_if one + one_if two + one_if push
moved false false false false f = refl
moved false false true false f = refl
moved true false false false f = refl
moved true false true false f = refl
moved true false false true f = refl
moved true false true true f = refl
moved true true false false f = refl
moved true true false true f = refl
moved false true push pop f = (let e : false ≡ true = f.second refl in absurd (grind (arith, e)))
moved false false push true f = (let e : false ≡ true = f.some refl in absurd (grind (arith, e)))
moved true true true pop f = (let e : true ≡ false = f.room refl in absurd (grind (arith, e)))

-- where none passes from a number on
pub none_between : (p : ℕ → Bool) (a n : ℕ) → a ≤ n → ((v : ℕ) → a ≤ v → v < n → p v ≡ false) → passing p n ≡ passing p a
none_between p a zero l h = (let e : 0 ≡ a = omega arith in ap (passing p) e)
none_between p a (suc n) l h = elim (cases_lt n a) [
  | inl last ↦ (let e : suc n ≡ a = omega (arith, last, l) in ap (passing p) e)
  | inr more ↦
      let off : one_if (p n) ≡ 0 = ap one_if (h n more (omega arith)) in
      let before : passing p n ≡ passing p a = none_between p a n more (λ v b k. h v b (omega arith)) in
      omega (arith, off, before)
]

-- products with a number that is not 0
pub cancel_le : (a b s : ℕ) → 0 < s → a * s ≤ b * s → a ≤ b
cancel_le a b s some l = elim (cases_lt b a) [
  | inl far ↦
      let e : suc b + (a - suc b) ≡ a = omega (arith, far) in
      let wide : (suc b + (a - suc b)) * s ≡ b * s + s + (a - suc b) * s = omega arith in
      let more : a * s ≡ b * s + s + (a - suc b) * s = ap (λ k. k * s) (sym e) ∙ wide in
      absurd (omega (arith, more, l, some))
  | inr g ↦ g
]

pub product_le : (a b s : ℕ) → a ≤ b → a * s ≤ b * s
product_le a b s l =
    let e : a + (b - a) ≡ b = omega (arith, l) in
    let wide : (a + (b - a)) * s ≡ a * s + (b - a) * s = omega arith in
    let more : b * s ≡ a * s + (b - a) * s = ap (λ k. k * s) (sym e) ∙ wide in
    omega (arith, more)

-- whole blocks that have been taken have been real ones, and the results of these are whole too
pub whole_results : (ins outs real : ℕ → Bool) (slowdown k n b : ℕ) → 0 < passing ins slowdown → n ≤ b * slowdown
    → k * passing ins slowdown ≤ passing (carries ins real slowdown) n → k * passing outs slowdown ≤ passing (carries outs real slowdown) (b * slowdown)
whole_results ins outs real slowdown k n b some within l =
    let more : passing (carries ins real slowdown) n ≤ passing (carries ins real slowdown) (b * slowdown) = passing_le (carries ins real slowdown) n
    (b * slowdown) within in
    let taken : passing (carries ins real slowdown) (b * slowdown) ≡ passing real b * passing ins slowdown = whole_blocks ins real slowdown b in
    let given : passing (carries outs real slowdown) (b * slowdown) ≡ passing real b * passing outs slowdown = whole_blocks outs real slowdown b in
    let few : k ≤ passing real b = cancel_le k (passing real b) (passing ins slowdown) some (omega (arith, l, more, taken)) in
    let all : k * passing outs slowdown ≤ passing real b * passing outs slowdown = product_le k (passing real b) (passing outs slowdown) few in
    omega (arith, all, given)
