-- Which element of a layout stands in a clock on a lane: no two elements have one slot.
use Rattle.std.proofs.Common.{ℕ, zero, suc, ◌≡◌, ◌+◌, ◌*◌, ◌/◌, ◌%◌, ◌<◌, ◌&&◌, nat_eq, Bool, true, false, ◌⊎◌, List, [], ◌∷◌, Option, Some, None, slice_get, inl, inr, arith, refl, ap, sym, ◌∙◌}
use Rattle.std.proofs.lemmas.Bool.Decides.{nat_tests}
use Rattle.std.proofs.lemmas.Nat.{div-add-mod'}
use Rattle.std.proofs.lemmas.Option.{none-some, same_Some, slice_get_within}
use Rattle.ae_sttype.specs.declared.st_type.Slot.{Slot}
use Rattle.ae_sttype.specs.StTree.{StTree, atom, tseq, sseq, st_atoms}
use Rattle.ae_sttype.specs.Slots.{slots, IsElementAt}
use Rattle.ae_sttype.specs.Size.{HasLengths}
use Rattle.ae_sttype.specs.Holds.{IsFree}
use Rattle.ae_sttype.proofs.Places.{Stands, slot_at, length-slots, tseq_stands, sseq_stands, stands_from_get}
use Rattle.ae_layout.specs.Standing.{element_in, found_from}

-- ---- one element in a slot

same_parts : (a b m : ℕ) → a / m ≡ b / m → a % m ≡ b % m → a ≡ b
same_parts a b m p q = sym (div-add-mod' a m) ∙ (λ i. p i * m + q i) ∙ div-add-mod' b m

one_stands : (s : StTree) → HasLengths s → (a b c l : ℕ) → Stands s a c l → Stands s b c l → a ≡ b
one_stands (atom k) h a b c l x y = omega (arith, x.below, y.below)
one_stands (tseq n i t) h a b c l x y =
    let p = tseq_stands n i t h a c l x in
    let q = tseq_stands n i t h b c l y in
    same_parts a b (st_atoms t) (sym p.0 ∙ q.0) (one_stands t h.1 (a % st_atoms t) (b % st_atoms t) _ l p.1 q.1)
one_stands (sseq n t) h a b c l x y =
    let p = sseq_stands n t h a c l x in
    let q = sseq_stands n t h b c l y in
    same_parts a b (st_atoms t) (sym p.0 ∙ q.0) (one_stands t h.1 (a % st_atoms t) (b % st_atoms t) c _ p.1 q.1)

-- ---- the first slot in a clock on a lane

decided : (b : Bool) → (b ≡ true) ⊎ (b ≡ false)
decided true = inl refl
decided false = inr refl

both : (a c b l : ℕ) → (nat_eq a c && nat_eq b l) ≡ true → (a ≡ c) × (b ≡ l)
both a c b l h = let p : a ≡ c = grind (arith, nat_tests) in let q : b ≡ l = grind (arith, nat_tests) in (p, q)

same_slot : (w : Slot) (c l : ℕ) → (w.clock ≡ c) × (w.lane ≡ l) → w ≡ slot_at c l
same_slot w c l h = rw (← h.0, ← h.1) refl

found_there : (e c l : ℕ) (ws : List Slot) (n : ℕ) → found_from e c l ws ≡ Some n → (i : ℕ) × (n ≡ e + i) × (slice_get ws i ≡ Some (slot_at c l))
found_there e c l [] n h = absurd (none-some n h)
found_there e c l (w ∷ ws) n h = elim (decided (nat_eq w.clock c && nat_eq w.lane l)) [
  | inl hit ↦
      let is : Some e ≡ Some n = rw hit at h in
      let same : e ≡ n = same_Some e n is in
      (0, omega (arith, same), ap Some (same_slot w c l (both w.clock c w.lane l hit)))
  | inr miss ↦
      let rest = found_there (e + 1) c l ws n (rw miss at h) in
      (suc rest.0, omega (arith, rest.1), rest.2)
]

not_found : (e c l : ℕ) (ws : List Slot) (i : ℕ) → found_from e c l ws ≡ None → slice_get ws i ≡ Some (slot_at c l) → ⊥
not_found e c l [] i h at = none-some _ at
not_found e c l (w ∷ ws) zero h at =
    let is : w ≡ slot_at c l = same_Some w (slot_at c l) at in
    let hit : (nat_eq w.clock c && nat_eq w.lane l) ≡ true = rw is (grind (arith, nat_tests)) in
    none-some e (sym (rw hit at h))
not_found e c l (w ∷ ws) (suc i) h at = elim (decided (nat_eq w.clock c && nat_eq w.lane l)) [
  | inl hit ↦ none-some e (sym (rw hit at h))
  | inr miss ↦ not_found (e + 1) c l ws i (rw miss at h) at
]

-- the element that is found has the slot
pub element_stands : (s : StTree) (c l e : ℕ) → element_in s c l ≡ Some e → slice_get (slots s) e ≡ Some (slot_at c l)
unfolding element_in
element_stands s c l e is =
    let there = found_there 0 c l (slots s) e is in
    let number : e ≡ there.0 = omega (arith, there.1) in
    ap (slice_get (slots s)) number ∙ there.2

found_or : (s : StTree) (c l e : ℕ) (o : Option ℕ) → HasLengths s → slice_get (slots s) e ≡ Some (slot_at c l) → element_in s c l ≡ o → o ≡ Some e
unfolding element_in
found_or s c l e None h at is = absurd (not_found 0 c l (slots s) e is at)
found_or s c l e (Some n) h at is = ap Some (one_stands s h n e c l (stands_from_get s n c l (element_stands s c l n is)) (stands_from_get s e c l at))

-- each element is found in its slot
pub element_found : (s : StTree) (c l e : ℕ) → HasLengths s → slice_get (slots s) e ≡ Some (slot_at c l) → element_in s c l ≡ Some e
element_found s c l e h at = found_or s c l e (element_in s c l) h at refl

pub element_below : (s : StTree) (c l e : ℕ) → element_in s c l ≡ Some e → e < st_atoms s
element_below s c l e is = omega (arith, slice_get_within (slots s) e _ (element_stands s c l e is), length-slots s)

none_by : (s : StTree) (c l : ℕ) (o : Option ℕ) → IsFree s c l → element_in s c l ≡ o → o ≡ None
none_by s c l None free is = refl
none_by s c l (Some e) free is = absurd (free e (element_stands s c l e is))

-- and none where the lane is free
pub none_found : (s : StTree) (c l : ℕ) → IsFree s c l → element_in s c l ≡ None
none_found s c l free = none_by s c l (element_in s c l) free refl

-- ---- what the code finds

by_found : (s : StTree) (c l : ℕ) (o f : Option ℕ) → IsElementAt s c l o → element_in s c l ≡ f → o ≡ f
unfolding element_in
by_found s c l o (Some n) h is = (h n).1 (element_stands s c l n is)
by_found s c l None None h is = refl
by_found s c l (Some e) None h is = absurd (not_found 0 c l (slots s) e is ((h e).0 refl))

pub element_is : (s : StTree) (c l : ℕ) (o : Option ℕ) → IsElementAt s c l o → o ≡ element_in s c l
element_is s c l o h = by_found s c l o (element_in s c l) h refl

-- what stands, stands below the number of elements
pub stands_below : (s : StTree) (c l e : ℕ) (o : Option ℕ) → IsElementAt s c l o → o ≡ Some e → e < st_atoms s
stands_below s c l e o h is = omega (arith, slice_get_within (slots s) e _ ((h e).0 is), length-slots s)
