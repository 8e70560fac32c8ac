-- The element of a slot, found from outside in.
use Rattle.std.proofs.Common.{◌≡◌, ℕ, ◌+◌, ◌*◌, ◌/◌, ◌%◌, ◌<◌, ◌≤◌, refl, ap, sym, Option, Some, None, ◌∙◌, arith}
use Rattle.std.proofs.lemmas.Nat.{div-mul-add, mod-mul-add, div-add-mod', mul-add-lt, div_below}
use Rattle.ae_sttype.specs.declared.st_type.Slot.{Slot}
use Rattle.ae_word.specs.AtomTree.{AtomTree}
use Rattle.ae_sttype.specs.StTree.{StTree, atom, tseq, sseq, time, lanes, st_atoms}
use Rattle.ae_sttype.specs.Slots.{IsElementAt}
use Rattle.ae_sttype.specs.Size.{HasLengths, IsInSize}
use Rattle.ae_sttype.proofs.Bounds.{atoms_pos, atoms_below}
use Rattle.ae_sttype.proofs.Places.{Stands, slot_at, slot_of, tseq_stands, sseq_stands, stands_in_tseq, stands_in_sseq, stands_from_get, get_from_stands}

some_same : (x y : ℕ) → Some x ≡ Some y → x ≡ y
some_same x y e = cc

-- nothing is found where nothing stands
pub nothing_at : (s : StTree) (c l : ℕ) → ((e : ℕ) → Stands s e c l → ⊥) → IsElementAt s c l None
nothing_at s c l none e = (λ (p : None ≡ Some e). cc, λ q. absurd (none e (stands_from_get s e c l q)))

pub stands_if_found : (s : StTree) (c l x : ℕ) → IsElementAt s c l (Some x) → Stands s x c l
stands_if_found s c l x f = stands_from_get s x c l ((f x).0 refl)

pub found_if_stands : (s : StTree) (c l e : ℕ) (o : Option ℕ) → IsElementAt s c l o → Stands s e c l → o ≡ Some e
found_if_stands s c l e o f w = (f e).1 (get_from_stands s e c l w)

-- where an element stands, and only it, it is found
pub found_at : (s : StTree) (c l x : ℕ) → Stands s x c l → ((e : ℕ) → Stands s e c l → e ≡ x) → IsElementAt s c l (Some x)
found_at s c l x w only e = (
  λ p. rw (← some_same x e p) (get_from_stands s x c l w),
  λ q. ap Some (sym (only e (stands_from_get s e c l q))),
)

-- ---- the exits of the code, in a sequence in time

pub past_tseq : (s t : StTree) (n i c l : ℕ) → s ≡ tseq n i t → HasLengths s → n ≤ c / time t → IsElementAt s c l None
past_tseq s t n i c l is h p = rw is (nothing_at (tseq n i t) c l (λ e w.
    let k = tseq_stands n i t (rw is at h) e c l w in
    omega (arith, k.0, div_below e (st_atoms t) n (atoms_pos t (rw is at h).1) w.below)))

pub none_in_tseq : (s t : StTree) (n i c l : ℕ) → s ≡ tseq n i t → HasLengths s → IsElementAt t (c % time t) l None → IsElementAt s c l None
none_in_tseq s t n i c l is h f = rw is (nothing_at (tseq n i t) c l (λ e w.
    let k = tseq_stands n i t (rw is at h) e c l w in
    let bad : None ≡ Some (e % st_atoms t) = found_if_stands t (c % time t) l (e % st_atoms t) None f k.1 in cc))

pub some_in_tseq : (s t : StTree) (n i c l x : ℕ) → s ≡ tseq n i t → HasLengths s → c / time t < n →
    IsElementAt t (c % time t) l (Some x) → IsElementAt s c l (Some (c / time t * st_atoms t + x))
some_in_tseq s t n i c l x is h p f =
    let hh : HasLengths (tseq n i t) = rw is at h in
    let w = stands_if_found t (c % time t) l x f in
    let e = c / time t * st_atoms t + x in
    let q : e / st_atoms t ≡ c / time t = div-mul-add (c / time t) (st_atoms t) x w.below in
    let r : e % st_atoms t ≡ x = mod-mul-add (c / time t) (st_atoms t) x w.below in
    let fits : e < n * st_atoms t = omega (arith, mul-add-lt (c / time t) (st_atoms t) x n p w.below) in
    let here : Stands (tseq n i t) e (e / st_atoms t * time t + c % time t) l =
    stands_in_tseq n i t hh e (c % time t) l fits (rw r w) in
    let place : e / st_atoms t * time t + c % time t ≡ c = ap (λ y. y * time t + c % time t) q ∙ div-add-mod' c (time t) in
    rw is (found_at (tseq n i t) c l e (rw place at here) (λ e' w'.
    let k = tseq_stands n i t hh e' c l w' in
    let same : Some x ≡ Some (e' % st_atoms t) = found_if_stands t (c % time t) l (e' % st_atoms t) (Some x) f k.1 in
    sym (div-add-mod' e' (st_atoms t)) ∙ ap (λ y. y * st_atoms t + e' % st_atoms t) (sym k.0) ∙
    ap (λ y. c / time t * st_atoms t + y) (sym (some_same _ _ same))))

-- ---- and in a sequence side by side

pub past_sseq : (s t : StTree) (n c l : ℕ) → s ≡ sseq n t → HasLengths s → n ≤ l / lanes t → IsElementAt s c l None
past_sseq s t n c l is h p = rw is (nothing_at (sseq n t) c l (λ e w.
    let k = sseq_stands n t (rw is at h) e c l w in
    omega (arith, k.0, div_below e (st_atoms t) n (atoms_pos t (rw is at h).1) w.below)))

pub none_in_sseq : (s t : StTree) (n c l : ℕ) → s ≡ sseq n t → HasLengths s → IsElementAt t c (l % lanes t) None → IsElementAt s c l None
none_in_sseq s t n c l is h f = rw is (nothing_at (sseq n t) c l (λ e w.
    let k = sseq_stands n t (rw is at h) e c l w in
    let bad : None ≡ Some (e % st_atoms t) = found_if_stands t c (l % lanes t) (e % st_atoms t) None f k.1 in cc))

pub some_in_sseq : (s t : StTree) (n c l x : ℕ) → s ≡ sseq n t → HasLengths s → l / lanes t < n →
    IsElementAt t c (l % lanes t) (Some x) → IsElementAt s c l (Some (l / lanes t * st_atoms t + x))
some_in_sseq s t n c l x is h p f =
    let hh : HasLengths (sseq n t) = rw is at h in
    let w = stands_if_found t c (l % lanes t) x f in
    let e = l / lanes t * st_atoms t + x in
    let q : e / st_atoms t ≡ l / lanes t = div-mul-add (l / lanes t) (st_atoms t) x w.below in
    let r : e % st_atoms t ≡ x = mod-mul-add (l / lanes t) (st_atoms t) x w.below in
    let fits : e < n * st_atoms t = omega (arith, mul-add-lt (l / lanes t) (st_atoms t) x n p w.below) in
    let here : Stands (sseq n t) e c (e / st_atoms t * lanes t + l % lanes t) =
    stands_in_sseq n t hh e c (l % lanes t) fits (rw r w) in
    let place : e / st_atoms t * lanes t + l % lanes t ≡ l = ap (λ y. y * lanes t + l % lanes t) q ∙ div-add-mod' l (lanes t) in
    rw is (found_at (sseq n t) c l e (rw place at here) (λ e' w'.
    let k = sseq_stands n t hh e' c l w' in
    let same : Some x ≡ Some (e' % st_atoms t) = found_if_stands t c (l % lanes t) (e' % st_atoms t) (Some x) f k.1 in
    sym (div-add-mod' e' (st_atoms t)) ∙ ap (λ y. y * st_atoms t + e' % st_atoms t) (sym k.0) ∙
    ap (λ y. l / lanes t * st_atoms t + y) (sym (some_same _ _ same))))

-- an atom stands in the first clock on the first lane
pub found_atom : (s : StTree) (k : AtomTree) → s ≡ atom k → IsElementAt s 0 0 (Some 0)
found_atom s k is = rw is (found_at (atom k) 0 0 0 (record { below = omega arith; is = refl }) (λ e w. omega (arith, w.below)))

pub not_in_atom : (s : StTree) (k : AtomTree) (c l : ℕ) → s ≡ atom k → 0 < c + l → IsElementAt s c l None
not_in_atom s k c l is p = rw is (nothing_at (atom k) c l (λ e w.
    let z : e ≡ 0 = omega (arith, w.below) in
    let same : slot_at 0 0 ≡ slot_at c l = ap (slot_of (atom k)) (sym z) ∙ w.is in
    omega (arith, ap (λ (x : Slot). x.clock) same, ap (λ (x : Slot). x.lane) same)))

-- the number of an element that is found fits
pub found_fits : (s t : StTree) (n q c l x : ℕ) → IsInSize s → st_atoms s ≡ n * st_atoms t → q < n → IsElementAt t c l (Some x) → q * st_atoms t + x < 16385
found_fits s t n q c l x whole is p f =
    omega (arith, mul-add-lt q (st_atoms t) x n p (stands_if_found t c l x f).below, atoms_below s whole, is)
