-- How much of the walk is left.
use Rattle.std.proofs.Common.{ℕ, zero, suc, ◌≡◌, ◌+◌, List, [], ◌∷◌, set, Some, slice_get, arith, add-one}
use Rattle.ae_order.specs.Walks.{left_at, left}
use Rattle.ae_order.specs.declared.sort.Mark.{Mark}

pub left_set : (starts : List ℕ) (marks : List Mark) (a first last : ℕ) (m m' : Mark) → slice_get starts a ≡ Some first → slice_get starts (suc a) ≡ Some last
    → slice_get marks a ≡ Some m
    → left starts (set marks a m') + left_at first last m ≡ left starts marks + left_at first last m'
left_set [] marks a first last m m' hf hl hm = cc
left_set (s ∷ ss) [] a first last m m' hf hl hm = cc
left_set (s ∷ []) (n ∷ ms) zero first last m m' hf hl hm = cc
left_set (s ∷ []) (n ∷ ms) (suc a) first last m m' hf hl hm = cc
left_set (s ∷ t ∷ ss) (n ∷ ms) zero first last m m' hf hl hm =
    let e : s ≡ first = cc in let f : t ≡ last = cc in let g : n ≡ m = cc in
    rw (e, f, g) (omega arith)
left_set (s ∷ t ∷ ss) (n ∷ ms) (suc a) first last m m' hf hl hm =
    let ih = left_set (t ∷ ss) ms a first last m m' hf hl hm in
    omega arith

pub left_next : (starts : List ℕ) (marks : List Mark) (a first last : ℕ) (m m' : Mark) → slice_get starts a ≡ Some first → slice_get starts (a + 1) ≡ Some last
    → slice_get marks a ≡ Some m
    → left starts (set marks a m') + left_at first last m ≡ left starts marks + left_at first last m'
left_next starts marks a first last m m' hf hl hm = left_set starts marks a first last m m' hf (rw add-one at hl) hm
