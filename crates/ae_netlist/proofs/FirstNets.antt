-- Nets from the first on, with others behind them.
use Rattle.std.proofs.Common.{ℕ, zero, suc, ◌≡◌, ◌∙◌, ◌+◌, ◌-◌, ◌<◌, ◌≤◌, inl, inr, List, [], ◌∷◌, ◌++◌, length, None, Some, slice_get, arith, refl, sym, ap, length-append}
use Rattle.std.proofs.lemmas.Bool.{cases_lt}
use Rattle.ae_netlist.specs.declared.cell.NetId.{NetId}
use Rattle.ae_netlist.specs.Packed.{first_nets, net}
use Rattle.ae_netlist.proofs.Gets.{get_left, get_pushed}

first_length : (n : ℕ) → length (first_nets n) ≡ n
first_length zero = refl
first_length (suc n) = let h : length (first_nets n) ≡ n = first_length n in omega (arith, length-append (first_nets n) (net n ∷ []))

pub length_from_first : (n : ℕ) (others : List NetId) → length (first_nets n ++ others) ≡ n + length others
length_from_first n others = length-append (first_nets n) others ∙ ap (λ m. m + length others) (first_length n)

last_at : (n k : ℕ) → n ≡ k → slice_get (first_nets n ++ net n ∷ []) k ≡ Some (net k)
last_at n k same = let at : length (first_nets n) ≡ k = first_length n ∙ same in
    ap (slice_get (first_nets n ++ net n ∷ [])) (sym at) ∙ (get_pushed (first_nets n) (net n) ∙ ap (λ m. Some (net m)) same)

first_at : (n k : ℕ) → k < n → slice_get (first_nets n) k ≡ Some (net k)
first_at zero k h = absurd (omega arith)
first_at (suc n) k h = elim (cases_lt k n) [
  | inl less ↦ get_left (first_nets n) (net n ∷ []) k (net k) (first_at n k less)
  | inr least ↦ last_at n k (omega arith)
]

pub net_in_front : (n k : ℕ) (others : List NetId) → k < n → slice_get (first_nets n ++ others) k ≡ Some (net k)
net_in_front n k others h = get_left (first_nets n) others k (net k) (first_at n k h)

get_behind : (xs ys : List NetId) (k : ℕ) → length xs ≤ k → slice_get (xs ++ ys) k ≡ slice_get ys (k - length xs)
get_behind [] ys k h = ap (slice_get ys) (let same : k ≡ k - 0 = omega arith in same)
get_behind (x ∷ xs) ys zero h = absurd (omega arith)
get_behind (x ∷ xs) ys (suc k) h =
    get_behind xs ys k (omega arith) ∙ ap (slice_get ys) (let same : k - length xs ≡ suc k - suc (length xs) = omega arith in same)

pub net_behind : (n k : ℕ) (others : List NetId) → n ≤ k → slice_get (first_nets n ++ others) k ≡ slice_get others (k - n)
net_behind n k others h = let l : length (first_nets n) ≡ n = first_length n in
    get_behind (first_nets n) others k (omega arith) ∙ ap (λ m. slice_get others (k - m)) l

pub past_end : (nets : List NetId) (k : ℕ) → slice_get nets k ≡ None → length nets ≤ k
past_end [] k h = omega arith
past_end (x ∷ xs) zero h = absurd (let s : Some x ≡ None = h in cc)
past_end (x ∷ xs) (suc k) h = let p : length xs ≤ k = past_end xs k h in omega arith
