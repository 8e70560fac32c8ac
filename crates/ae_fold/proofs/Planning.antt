-- The numbers of a fold of elements of a type.
use Rattle.std.proofs.Common.{ℕ, zero, suc, ◌*◌, ◌^◌, ◌<◌, ◌≤◌, arith}
use Rattle.std.proofs.Math.Nat.{mul-le-mul_right}
use Rattle.ae_sttype.specs.StTree.{StTree, lanes, st_atoms, element_words}
use Rattle.ae_sttype.specs.Size.{IsInSize}
use Rattle.ae_sttype.proofs.Bounds.{lanes-le-atoms, lanes_pos, element_words_pos}
use Rattle.ae_fold.proofs.LogUp.{below_power}

pub columns_small : (t : StTree) → IsInSize t → lanes t * element_words t ≤ 16384
columns_small t h =
    let l : lanes t * element_words t ≤ st_atoms t * element_words t = mul-le-mul_right (element_words t) (lanes-le-atoms t h.lengths) in
    omega (arith, h.in_words)

pub product_some : (a b : ℕ) → 1 ≤ a → 1 ≤ b → 1 ≤ a * b
product_some a b p q = grind arith

pub columns_some : (t : StTree) → IsInSize t → 1 ≤ lanes t * element_words t
columns_some t h = product_some (lanes t) (element_words t) (lanes_pos t h.lengths) (element_words_pos t)

-- the levels are no more than the lanes
pub levels_below : (lanes levels : ℕ) → 1 ≤ lanes → ((k : ℕ) → k < levels → 2 ^ k < lanes) → levels ≤ lanes
levels_below lanes zero some least = omega arith
levels_below lanes (suc l) some least = omega (arith, below_power l, least l (omega arith))
