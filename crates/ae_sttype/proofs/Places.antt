-- The element that stands at a place of the list of slots.
use Rattle.std.proofs.Common.{◌≡◌, ℕ, zero, suc, ◌+◌, ◌*◌, ◌/◌, ◌%◌, ◌<◌, inl, inr, List, ◌++◌, length, map, get_or, refl, ap, sym, slice_get, Some, ◌∙◌, arith, length-append}
use Rattle.std.specs.Prelude.{unwrap_or}
use Rattle.std.proofs.lemmas.List.{length-map, get_or-append-add, get_or_append_left, get_or-map}
use Rattle.std.proofs.lemmas.Nat.{mul-add-lt, div-mul-add, mod-mul-add, div_below, mod_below, div-add-mod'}
use Rattle.std.proofs.lemmas.Bool.{cases_lt}
use Rattle.std.proofs.lemmas.Option.{slice_get-get_or, slice_get_within, unwrap_or-slice_get}
use Rattle.ae_sttype.specs.declared.st_type.Slot.{Slot}
use Rattle.ae_sttype.specs.StTree.{StTree, atom, tseq, sseq, time, lanes, st_atoms}
use Rattle.ae_sttype.specs.Slots.{moved, copies, slots}
use Rattle.ae_sttype.specs.Size.{HasLengths}
use Rattle.ae_sttype.proofs.Bounds.{atoms_pos}

abbrev pub slot_at : ℕ → ℕ → Slot
slot_at c l = record { clock = c; lane = l }

pub length-copies : (n c l : ℕ) (ws : List Slot) → length (copies n c l ws) ≡ n * length ws
length-copies zero c l ws = omega arith
length-copies (suc q) c l ws =
    omega (arith, length-append (copies q c l ws) (map (moved (q * c) (q * l)) ws), length-map ws (moved (q * c) (q * l)), length-copies q c l ws)

pub length-slots : (s : StTree) → length (slots s) ≡ st_atoms s
length-slots (atom k) = refl
length-slots (tseq n i t) = length-copies n (time t) 0 (slots t) ∙ ap (λ m. n * m) (length-slots t)
length-slots (sseq n t) = length-copies n 0 (lanes t) (slots t) ∙ ap (λ m. n * m) (length-slots t)

-- the r-th slot of copy q is that of the one copy, moved
pub get_or-copies : (n c l : ℕ) (ws : List Slot) (q r : ℕ) (d : Slot) → q < n → r < length ws →
    get_or (copies n c l ws) (q * length ws + r) d ≡ moved (q * c) (q * l) (get_or ws r d)
get_or-copies zero c l ws q r d p h = absurd (omega arith)
get_or-copies (suc m) c l ws q r d p h = elim (cases_lt q m) [
  | inl below ↦
      get_or_append_left (copies m c l ws) (map (moved (m * c) (m * l)) ws) d (q * length ws + r)
      (omega (arith, mul-add-lt q (length ws) r m below h, length-copies m c l ws))
      ∙ get_or-copies m c l ws q r d below h
  | inr above ↦
      let e : q ≡ m = omega arith in
      ap (λ i. get_or (copies m c l ws ++ map (moved (m * c) (m * l)) ws) i d)
      (let f : q * length ws + r ≡ length (copies m c l ws) + r = omega (arith, length-copies m c l ws, ap (λ x. x * length ws) e) in f)
      ∙ get_or-append-add (copies m c l ws) (map (moved (m * c) (m * l)) ws) r d
      ∙ get_or-map (moved (m * c) (m * l)) ws r d d h
      ∙ ap (λ x. moved (x * c) (x * l) (get_or ws r d)) (sym e)
]

-- element e of n copies is element e mod m of copy e / m, where one copy has m elements
pub copies_place : (n c l m : ℕ) (ws : List Slot) (e : ℕ) (d : Slot) → length ws ≡ m → 0 < m → e < n * m →
    unwrap_or (slice_get (copies n c l ws) e) d ≡ moved (e / m * c) (e / m * l) (unwrap_or (slice_get ws (e % m)) d)
copies_place n c l m ws e d s p h = rw (unwrap_or-slice_get (copies n c l ws) e d, unwrap_or-slice_get ws (e % m) d)
    (ap (λ i. get_or (copies n c l ws) i d) (let f : e ≡ e / m * length ws + e % m = omega (arith, div-add-mod' e m, ap (λ x. e / m * x) s) in f)
    ∙ get_or-copies n c l ws (e / m) (e % m) d (div_below e m n p h) (omega (arith, mod_below e m p)))

-- the slot of element e
abbrev pub slot_of : StTree → ℕ → Slot
slot_of s e = unwrap_or (slice_get (slots s) e) (slot_at 0 0)

pub tseq_slot : (n i : ℕ) (t : StTree) → 0 < st_atoms t → (e : ℕ) → e < n * st_atoms t →
    slot_of (tseq n i t) e ≡ moved (e / st_atoms t * time t) (e / st_atoms t * 0) (slot_of t (e % st_atoms t))
tseq_slot n i t p e h = copies_place n (time t) 0 (st_atoms t) (slots t) e (slot_at 0 0) (length-slots t) p h

pub sseq_slot : (n : ℕ) (t : StTree) → 0 < st_atoms t → (e : ℕ) → e < n * st_atoms t →
    slot_of (sseq n t) e ≡ moved (e / st_atoms t * 0) (e / st_atoms t * lanes t) (slot_of t (e % st_atoms t))
sseq_slot n t p e h = copies_place n 0 (lanes t) (st_atoms t) (slots t) e (slot_at 0 0) (length-slots t) p h

pub row_below : (q c n k : ℕ) → q < n → c < k → q * k + c < n * k
row_below q c n k p h = omega (arith, mul-add-lt q k c n p h)

-- every slot lies within the time and the lanes
pub slot_below : (s : StTree) → HasLengths s → (e : ℕ) → e < st_atoms s → ((slot_of s e).clock < time s) × ((slot_of s e).lane < lanes s)
slot_below (atom k) h e p = let z : e ≡ 0 = omega arith in rw z (omega arith, omega arith)
slot_below (tseq n i t) h e p =
    let r : e % st_atoms t < st_atoms t = mod_below e (st_atoms t) (atoms_pos t h.1) in
    let q : e / st_atoms t < n = div_below e (st_atoms t) n (atoms_pos t h.1) p in
    let b = slot_below t h.1 (e % st_atoms t) r in
    rw (tseq_slot n i t (atoms_pos t h.1) e p)
    (row_below (e / st_atoms t) (slot_of t (e % st_atoms t)).clock (n + i) (time t) (omega arith) b.0, omega (arith, b.1))
slot_below (sseq n t) h e p =
    let r : e % st_atoms t < st_atoms t = mod_below e (st_atoms t) (atoms_pos t h.1) in
    let q : e / st_atoms t < n = div_below e (st_atoms t) n (atoms_pos t h.1) p in
    let b = slot_below t h.1 (e % st_atoms t) r in
    rw (sseq_slot n t (atoms_pos t h.1) e p)
    (omega (arith, b.0), row_below (e / st_atoms t) (slot_of t (e % st_atoms t)).lane n (lanes t) q b.1)

-- element e of the type s has the slot in clock c on lane l
pub record Stands (s : StTree) (e c l : ℕ) : Type 0 where
  pub below : e < st_atoms s
  pub is : slot_of s e ≡ slot_at c l

pub same_slot : (a b c d : ℕ) → a ≡ c → b ≡ d → slot_at a b ≡ slot_at c d
same_slot a b c d p q = cc

-- element e of a sequence in time is element e mod st_atoms, in the e / atoms-th stretch
pub stands_in_tseq : (n i : ℕ) (t : StTree) → HasLengths (tseq n i t) → (e c l : ℕ) → e < n * st_atoms t →
    Stands t (e % st_atoms t) c l → Stands (tseq n i t) e (e / st_atoms t * time t + c) l
stands_in_tseq n i t h e c l p s = record {
  below = p;
  is = tseq_slot n i t (atoms_pos t h.1) e p ∙ rw s.is (same_slot _ _ _ _ refl (omega arith));
}

pub tseq_stands : (n i : ℕ) (t : StTree) → HasLengths (tseq n i t) → (e c l : ℕ) → Stands (tseq n i t) e c l →
    (c / time t ≡ e / st_atoms t) × Stands t (e % st_atoms t) (c % time t) l
tseq_stands n i t h e c l s =
    let w = slot_of t (e % st_atoms t) in
    let r : e % st_atoms t < st_atoms t = mod_below e (st_atoms t) (atoms_pos t h.1) in
    let b = slot_below t h.1 (e % st_atoms t) r in
    let m = tseq_slot n i t (atoms_pos t h.1) e s.below in
    let ec : c ≡ e / st_atoms t * time t + w.clock = ap (λ (x : Slot). x.clock) (sym s.is ∙ m) in
    let el : l ≡ e / st_atoms t * 0 + w.lane = ap (λ (x : Slot). x.lane) (sym s.is ∙ m) in (
      ap (λ x. x / time t) ec ∙ div-mul-add (e / st_atoms t) (time t) w.clock b.0,
      record { below = r; is = same_slot _ _ _ _ (sym (ap (λ x. x % time t) ec ∙ mod-mul-add (e / st_atoms t) (time t) w.clock b.0)) (omega arith) },
    )

-- element e of a sequence side by side is element e mod st_atoms, in the e / atoms-th group of lanes
pub stands_in_sseq : (n : ℕ) (t : StTree) → HasLengths (sseq n t) → (e c l : ℕ) → e < n * st_atoms t →
    Stands t (e % st_atoms t) c l → Stands (sseq n t) e c (e / st_atoms t * lanes t + l)
stands_in_sseq n t h e c l p s = record {
  below = p;
  is = sseq_slot n t (atoms_pos t h.1) e p ∙ rw s.is (same_slot _ _ _ _ (omega arith) refl);
}

pub sseq_stands : (n : ℕ) (t : StTree) → HasLengths (sseq n t) → (e c l : ℕ) → Stands (sseq n t) e c l →
    (l / lanes t ≡ e / st_atoms t) × Stands t (e % st_atoms t) c (l % lanes t)
sseq_stands n t h e c l s =
    let w = slot_of t (e % st_atoms t) in
    let r : e % st_atoms t < st_atoms t = mod_below e (st_atoms t) (atoms_pos t h.1) in
    let b = slot_below t h.1 (e % st_atoms t) r in
    let m = sseq_slot n t (atoms_pos t h.1) e s.below in
    let ec : c ≡ e / st_atoms t * 0 + w.clock = ap (λ (x : Slot). x.clock) (sym s.is ∙ m) in
    let el : l ≡ e / st_atoms t * lanes t + w.lane = ap (λ (x : Slot). x.lane) (sym s.is ∙ m) in (
      ap (λ x. x / lanes t) el ∙ div-mul-add (e / st_atoms t) (lanes t) w.lane b.1,
      record { below = r; is = same_slot _ _ _ _ (omega arith) (sym (ap (λ x. x % lanes t) el ∙ mod-mul-add (e / st_atoms t) (lanes t) w.lane b.1)) },
    )

-- both forms of the fact
pub stands_from_get : (s : StTree) (e c l : ℕ) → slice_get (slots s) e ≡ Some (slot_at c l) → Stands s e c l
stands_from_get s e c l h = record {
  below = omega (arith, slice_get_within (slots s) e (slot_at c l) h, length-slots s);
  is = ap (λ o. unwrap_or o (slot_at 0 0)) h;
}

pub get_from_stands : (s : StTree) (e c l : ℕ) → Stands s e c l → slice_get (slots s) e ≡ Some (slot_at c l)
get_from_stands s e c l w = slice_get-get_or (slots s) e (slot_at 0 0) (omega (arith, w.below, length-slots s))
    ∙ ap Some (sym (unwrap_or-slice_get (slots s) e (slot_at 0 0)) ∙ w.is)

-- ---- what the code returns

pub slot_in_tseq : (n i : ℕ) (t : StTree) → HasLengths (tseq n i t) → (e : ℕ) (w : Slot) → e < n * st_atoms t →
    slice_get (slots t) (e % st_atoms t) ≡ Some w → slice_get (slots (tseq n i t)) e ≡ Some (slot_at (e / st_atoms t * time t + w.clock) w.lane)
slot_in_tseq n i t h e w p g =
    get_from_stands (tseq n i t) e _ _ (stands_in_tseq n i t h e w.clock w.lane p (stands_from_get t (e % st_atoms t) w.clock w.lane g))

pub slot_in_sseq : (n : ℕ) (t : StTree) → HasLengths (sseq n t) → (e : ℕ) (w : Slot) → e < n * st_atoms t →
    slice_get (slots t) (e % st_atoms t) ≡ Some w → slice_get (slots (sseq n t)) e ≡ Some (slot_at w.clock (e / st_atoms t * lanes t + w.lane))
slot_in_sseq n t h e w p g =
    get_from_stands (sseq n t) e _ _ (stands_in_sseq n t h e w.clock w.lane p (stands_from_get t (e % st_atoms t) w.clock w.lane g))

-- the same with names for the parts, as the code has them
pub slot_by_tseq : (s t : StTree) (n i size k e : ℕ) (w : Slot) → s ≡ tseq n i t → size ≡ st_atoms t → k ≡ time t → HasLengths s → e < st_atoms s →
    slice_get (slots t) (e % size) ≡ Some w → slice_get (slots s) e ≡ Some (slot_at (e / size * k + w.clock) w.lane)
slot_by_tseq s t n i size k e w is sz tm h p g = rw (is, sz, tm) (slot_in_tseq n i t (rw is at h) e w (rw is at p) (rw sz at g))

pub slot_by_sseq : (s t : StTree) (n size k e : ℕ) (w : Slot) → s ≡ sseq n t → size ≡ st_atoms t → k ≡ lanes t → HasLengths s → e < st_atoms s →
    slice_get (slots t) (e % size) ≡ Some w → slice_get (slots s) e ≡ Some (slot_at w.clock (e / size * k + w.lane))
slot_by_sseq s t n size k e w is sz ln h p g = rw (is, sz, ln) (slot_in_sseq n t (rw is at h) e w (rw is at p) (rw sz at g))

-- what is left of an element's number is an element of the part
pub rest_by : (t : StTree) (size e : ℕ) → size ≡ st_atoms t → HasLengths t → e % size < st_atoms t
rest_by t size e sz h = rw sz (mod_below e (st_atoms t) (atoms_pos t h))

pub tseq_fits : (n i : ℕ) (t : StTree) → HasLengths (tseq n i t) → (e c : ℕ) → e < n * st_atoms t → c < time t → e / st_atoms t * time t + c < (n + i) * time t
tseq_fits n i t h e c p q =
    let r : e / st_atoms t < n = div_below e (st_atoms t) n (atoms_pos t h.1) p in
    row_below (e / st_atoms t) c (n + i) (time t) (omega arith) q

pub sseq_fits : (n : ℕ) (t : StTree) → HasLengths (sseq n t) → (e l : ℕ) → e < n * st_atoms t → l < lanes t → e / st_atoms t * lanes t + l < n * lanes t
sseq_fits n t h e l p q = row_below (e / st_atoms t) l n (lanes t) (div_below e (st_atoms t) n (atoms_pos t h.1) p) q

-- the same with names for the parts, as the code has them
pub tseq_fits_by : (s t : StTree) (n i size k e c : ℕ) → s ≡ tseq n i t → size ≡ st_atoms t → k ≡ time t → HasLengths s → e < st_atoms s → c < time t →
    e / size * k + c < time s
tseq_fits_by s t n i size k e c is sz tm h p q = rw (is, sz, tm) (tseq_fits n i t (rw is at h) e c (rw is at p) q)

pub sseq_fits_by : (s t : StTree) (n size k e l : ℕ) → s ≡ sseq n t → size ≡ st_atoms t → k ≡ lanes t → HasLengths s → e < st_atoms s → l < lanes t →
    e / size * k + l < lanes s
sseq_fits_by s t n size k e l is sz ln h p q = rw (is, sz, ln) (sseq_fits n t (rw is at h) e l (rw is at p) q)

pub rest_below : (t : StTree) (e : ℕ) → 0 < st_atoms t → e % st_atoms t < st_atoms t
rest_below t e h = mod_below e (st_atoms t) h

pub ruleset places = (tseq_fits, sseq_fits, rest_below)
