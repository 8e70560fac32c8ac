-- Layouts whose elements stand at the same places.
use Rattle.std.proofs.Common.{ℕ, ◌≡◌, ◌+◌, ◌*◌, ◌/◌, ◌≤◌, ◌<◌, inl, inr, List, [], ◌∷◌, map, arith, refl, sym, ap, ◌∙◌}
use Rattle.std.proofs.Math.Nat.{mul-div_cancel, mul-le-mul_right}
use Rattle.ae_word.specs.AtomTree.{AtomTree, WordKind, atom_kinds}
use Rattle.ae_sttype.specs.declared.st_type.Slot.{Slot}
use Rattle.ae_sttype.specs.StTree.{StTree, tseq, sseq, time, lanes, st_atoms, element_atom}
use Rattle.ae_sttype.specs.Slots.{slots, copies, moved}
use Rattle.ae_ops.specs.Blocks.{Stream, stream_of}
use Rattle.ae_delay.specs.OwnCosts.{inner_time}
use Rattle.ae_flow.specs.Fitted.{IsArranged, IsOneOf, elements_stream}
use Rattle.ae_flow.proofs.Streams.{one_copy as copies_one}

moved_none : (c l : ℕ) (ws : List Slot) → c ≡ 0 → l ≡ 0 → map (moved c l) ws ≡ ws
moved_none c l [] ec el = refl
moved_none c l (w ∷ ws) ec el =
    let clock : c + w.clock ≡ w.clock = omega (arith, ec) in
    let lane : l + w.lane ≡ w.lane = omega (arith, el) in
    rw (clock, lane, moved_none c l ws ec el) refl

one_lane : (n : ℕ) → 1 * n ≡ n
one_lane n = omega arith

same_stream : (a : AtomTree) (ws vs : List Slot) (n m : ℕ) → ws ≡ vs → n ≡ m
    → ◌≡◌ {A = Stream} (record { slots = ws; lanes = n; widths = map (λ (k : WordKind). k.width) (atom_kinds a) })
    (record { slots = vs; lanes = m; widths = map (λ (k : WordKind). k.width) (atom_kinds a) })
same_stream a ws vs n m ew en = rw (ew, en) refl

pub one_on_lane : (t : StTree) → stream_of (sseq 1 t) ≡ stream_of t
one_on_lane t = same_stream (element_atom t) (slots (sseq 1 t)) (slots t) (1 * lanes t) (lanes t) (copies_one 0 (lanes t) (slots t)) (one_lane (lanes t))

pub one_in_slot : (rest : ℕ) (t : StTree) → stream_of (tseq 1 rest t) ≡ stream_of t
one_in_slot rest t = same_stream (element_atom t) (slots (tseq 1 rest t)) (slots t) (lanes t) (lanes t) (copies_one (time t) 0 (slots t)) refl

-- an element that comes alone stands as it is
pub one_stream : (t s : StTree) → IsOneOf t s → stream_of s ≡ stream_of t
one_stream t s h = elim h [
  | inl e ↦ ap stream_of e ∙ one_on_lane t
  | inr e ↦ ap stream_of e.1 ∙ one_in_slot e.0 t
]

pub one_atom : (t s : StTree) → IsOneOf t s → element_atom s ≡ element_atom t
one_atom t s h = elim h [
  | inl e ↦ ap element_atom e
  | inr e ↦ ap element_atom e.1
]

pub one_atoms : (t s : StTree) → IsOneOf t s → st_atoms s ≡ st_atoms t
one_atoms t s h = elim h [
  | inl e ↦ ap st_atoms e ∙ one_lane (st_atoms t)
  | inr e ↦ ap st_atoms e.1 ∙ one_lane (st_atoms t)
]

pub one_lanes : (t s : StTree) → IsOneOf t s → lanes s ≡ lanes t
one_lanes t s h = elim h [
  | inl e ↦ ap lanes e ∙ one_lane (lanes t)
  | inr e ↦ ap lanes e.1
]

-- there is one element at most
pub one_only : (t u s : StTree) → IsOneOf t s → IsOneOf u s → t ≡ u
one_only t u s h g = elim h [
  | inl e ↦ elim g [
    | inl f ↦ (let both : sseq 1 t ≡ sseq 1 u = sym e ∙ f in cc)
    | inr f ↦ (let both : sseq 1 t ≡ tseq 1 f.0 u = sym e ∙ f.1 in cc)
  ]
  | inr e ↦ elim g [
    | inl f ↦ (let both : tseq 1 e.0 t ≡ sseq 1 u = sym e.1 ∙ f in cc)
    | inr f ↦ (let both : tseq 1 e.0 t ≡ tseq 1 f.0 u = sym e.1 ∙ f.1 in cc)
  ]
]

-- where there is room for two elements of a layout, its slots are those of its elements
pub one_inner : (budget slots : ℕ) (t s : StTree) → 1 ≤ budget → time s ≡ budget → slots * time t ≤ budget → 2 ≤ slots → IsOneOf t s → inner_time s ≡ time t
one_inner budget n t s some fills room two h = elim h [
  | inl e ↦
      let whole : time t ≡ budget = sym (ap time e) ∙ fills in
      let more : 2 * time t ≤ n * time t = mul-le-mul_right (time t) two in
      absurd (omega (arith, whole, more, room, some))
  | inr e ↦ ap inner_time e.1
]

-- ---- elements as the layout rule arranges them

pub arranged_stream : (n m : ℕ) (t s : StTree) → IsArranged n m t s → stream_of s ≡ elements_stream n m t
arranged_stream n m t s h = elim h [
  | inl e ↦ ap stream_of e.1 ∙ (sym (one_in_slot 0 (sseq m t)) ∙ ap (λ k. elements_stream k m t) (sym e.0))
  | inr e ↦ elim e [
    | inl e ↦
        ap stream_of e.1.1
        ∙ (sym (same_stream (element_atom t) (copies n (time t) 0 (slots (sseq 1 t))) (copies n (time t) 0 (slots t)) (1 * lanes t) (lanes t)
        (ap (copies n (time t) 0) (copies_one 0 (lanes t) (slots t))) (one_lane (lanes t)))
        ∙ ap (λ k. elements_stream n k t) (sym e.0))
    | inr e ↦ ap stream_of e.1.1
  ]
]

pub arranged_atom : (n m : ℕ) (t s : StTree) → IsArranged n m t s → element_atom s ≡ element_atom t
arranged_atom n m t s h = elim h [
  | inl e ↦ ap element_atom e.1
  | inr e ↦ elim e [
    | inl e ↦ ap element_atom e.1.1
    | inr e ↦ ap element_atom e.1.1
  ]
]

pub arranged_atoms : (n m : ℕ) (t s : StTree) → IsArranged n m t s → st_atoms s ≡ st_atoms t * (n * m)
arranged_atoms n m t s h = elim h [
  | inl e ↦ ap st_atoms e.1 ∙ (let one : m * st_atoms t ≡ st_atoms t * (1 * m) = omega arith in one) ∙ ap (λ k. st_atoms t * (k * m)) (sym e.0)
  | inr e ↦ elim e [
    | inl e ↦ ap st_atoms e.1.1 ∙ (let one : n * st_atoms t ≡ st_atoms t * (n * 1) = omega arith in one) ∙ ap (λ k. st_atoms t * (n * k)) (sym e.0)
    | inr e ↦ ap st_atoms e.1.1 ∙ (let one : n * (m * st_atoms t) ≡ st_atoms t * (n * m) = omega arith in one)
  ]
]

pub arranged_lanes : (n m : ℕ) (t s : StTree) → IsArranged n m t s → lanes s ≡ lanes t * m
arranged_lanes n m t s h = elim h [
  | inl e ↦ ap lanes e.1 ∙ (let turn : m * lanes t ≡ lanes t * m = omega arith in turn)
  | inr e ↦ elim e [
    | inl e ↦ ap lanes e.1.1 ∙ (let one : lanes t ≡ lanes t * 1 = omega arith in one) ∙ ap (λ k. lanes t * k) (sym e.0)
    | inr e ↦ ap lanes e.1.1 ∙ (let turn : m * lanes t ≡ lanes t * m = omega arith in turn)
  ]
]

pub arranged_inner : (n m : ℕ) (t s : StTree) → 2 ≤ n → IsArranged n m t s → inner_time s ≡ time t
arranged_inner n m t s two h = elim h [
  | inl e ↦ absurd (omega (arith, e.0, two))
  | inr e ↦ elim e [
    | inl e ↦ ap inner_time e.1.1
    | inr e ↦ ap inner_time e.1.1
  ]
]

-- a part of a product
pub cut_product : (a b k w : ℕ) → 0 < k → a ≡ b * k → a * w / k ≡ b * w
cut_product a b k w some e =
    (let turn : a * w ≡ b * w * k = ap (λ x. x * w) e ∙ (let t : b * k * w ≡ b * w * k = omega arith in t) in ap (λ x. x / k) turn ∙
    mul-div_cancel (b * w) some)

-- ---- the widths of the words of an element

abbrev pub widths_of : StTree → List ℕ
widths_of s = map (λ (k : WordKind). k.width) (atom_kinds (element_atom s))
