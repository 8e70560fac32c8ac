-- Layouts of elements: their parts, and the widths of their first words.
use Rattle.std.proofs.Common.{ℕ, ◌≡◌, ◌<◌, inl, inr, List, [], ◌∷◌, length, map, Some, None, slice_get, get_or, option_map, arith, refl}
use Rattle.ae_word.specs.AtomTree.{WordKind}
use Rattle.ae_sttype.specs.StTree.{StTree, sseq}
use Rattle.ae_sttype.specs.Size.{IsInSize}
use Rattle.ae_sttype.proofs.Bounds.{part_of_sseq, part_of_tseq}
use Rattle.ae_flow.specs.Fitted.{IsArranged, IsOneOf}

pub arranged_size : (n m : ℕ) (t s : StTree) → IsArranged n m t s → IsInSize s → IsInSize t
arranged_size n m t s h size = elim h [
  | inl h ↦ part_of_sseq s t m h.1 size
  | inr h ↦ elim h [
    | inl h ↦ part_of_tseq s t n h.1.0 h.1.1 size
    | inr h ↦ part_of_sseq (sseq m t) t m refl (part_of_tseq s (sseq m t) n h.1.0 h.1.1 size)
  ]
]

pub one_size : (t s : StTree) → IsOneOf t s → IsInSize s → IsInSize t
one_size t s h size = elim h [
  | inl h ↦ part_of_sseq s t 1 h size
  | inr h ↦ part_of_tseq s t 1 h.0 h.1 size
]

pub first_is : (ks : List WordKind) (w : ℕ) → option_map (λ (k : WordKind). k.width) (slice_get ks 0) ≡ Some w
    → w ≡ get_or (map (λ (k : WordKind). k.width) ks) 0 0
first_is [] w h = cc
first_is (k ∷ ks) w h = (let same : Some k.width ≡ Some w = h in cc)

pub first_there : (ks : List WordKind) → 0 < length ks → option_map (λ (k : WordKind). k.width) (slice_get ks 0) ≡ None → ⊥
first_there [] some h = omega (arith, some)
first_there (k ∷ ks) some h = cc
