-- The trips of a move between layouts in size.
use Rattle.std.proofs.Common.{ℕ, ◌≡◌, ◌+◌, ◌*◌, ◌/◌, ◌%◌, ◌<◌, ◌≤◌, inl, inr, List, length, map, sum_by, arith, refl, sym, ap, ◌∙◌, subst, slice_get}
use Rattle.std.proofs.Math.Nat.{mul-le-mul_right}
use Rattle.std.proofs.lemmas.Bool.{cases_lt}
use Rattle.std.proofs.lemmas.Nat.{div-add-mod', div-mul-add, div_below, mod-mul-add, mod_below}
use Rattle.std.specs.Prelude.{unwrap_or}
use Rattle.std.proofs.lemmas.Option.{unwrap_or-slice_get}
use Rattle.ae_sttype.specs.declared.st_type.Slot.{Slot}
use Rattle.ae_sttype.specs.StTree.{StTree, atom, tseq, sseq, time, lanes, st_atoms, element_words}
use Rattle.ae_sttype.specs.Slots.{moved, slots}
use Rattle.ae_sttype.specs.Size.{HasLengths, IsInSize}
use Rattle.ae_sttype.specs.Moves.{SourceTree, TripTree, fixed, columns_of, lead_from}
use Rattle.ae_sttype.proofs.Bounds.{lanes_pos}
use Rattle.ae_sttype.proofs.Lively.{lane_order}
use Rattle.ae_sttype.proofs.Places.{get_or-copies, length-slots, slot_at, slot_below, slot_of, row_below as in_row}
use Rattle.ae_moves.specs.declared.trip.Source.{Source}
use Rattle.ae_moves.specs.declared.trip.Source.TheVariants.{Place, Fixed}
use Rattle.ae_moves.specs.declared.trip.Trip.{Trip}
use Rattle.ae_columns.specs.Plans.{AreInOrder, AreUsed, AreWithin, IsIn, IsReached}
use Rattle.ae_moves.specs.Trees.{source_tree, trip_tree}
use Rattle.ae_moves.specs.Origins.{IsMove, Move, move_latency, move_trips}
use Rattle.ae_moves.proofs.Lists.{fold_ge, get_mapped}
use Rattle.ae_moves.proofs.Words.{words_pos, sizes_of, trip_at, trip_there, column_below, InTree, origin_in, origin_at}

-- ---- numbers and parts

same_parts : (a b c d w : ℕ) → b < w → d < w → a * w + b ≡ c * w + d → (a ≡ c) × (b ≡ d)
same_parts a b c d w hb hd e =
    (sym (div-mul-add a w b hb) ∙ (ap (λ n. n / w) e ∙ div-mul-add c w d hd), sym (mod-mul-add a w b hb) ∙ (ap (λ n. n % w) e ∙ mod-mul-add c w d hd))

less_part : (m n w : ℕ) → m < n → m % w ≡ n % w → m / w < n / w
less_part m n w l e = elim (cases_lt (m / w) (n / w)) [
  | inl h ↦ h
  | inr h ↦ (let g : n / w * w ≤ m / w * w = mul-le-mul_right w h in absurd (omega (arith, div-add-mod' m w, div-add-mod' n w)))
]

-- ---- the trip of a number

order_at : (s : StTree) → HasLengths s → (e f : ℕ) → e < st_atoms s → f < st_atoms s → (slot_of s e).lane ≡ (slot_of s f).lane → e < f
    → (slot_of s e).clock < (slot_of s f).clock
order_at s h e f le lf same l =
    lane_order s h e f (slot_of s e).clock (slot_of s f).clock (slot_of s e).lane (record { below = le; is = refl })
    (record { below = lf; is = ap (slot_at (slot_of s f).clock) (sym same) }) l

-- on one column a later trip is in a later clock
pub in_order : (m : Move) (trips : List Trip) → IsInSize m.out → map trip_tree trips ≡ move_trips m → AreInOrder trips
in_order m trips size e = record {
  each = λ a b t u l fa fb col.
      let w : ℕ = element_words m.out in
      let x = trip_at m.ins m.out m.origins trips e a t fa in
      let y = trip_at m.ins m.out m.origins trips e b u fb in
      let ea : a / w < st_atoms m.out = div_below a w (st_atoms m.out) (words_pos m.out) x.0 in
      let eb : b / w < st_atoms m.out = div_below b w (st_atoms m.out) (words_pos m.out) y.0 in
      let cols : (slot_of m.out (a / w)).lane * w + a % w ≡ (slot_of m.out (b / w)).lane * w + b % w = sym (ap (λ (v : TripTree). v.column) x.1) ∙
      (col ∙ ap (λ (v : TripTree). v.column) y.1) in
      let parts = same_parts _ _ _ _ w (mod_below a w (words_pos m.out)) (mod_below b w (words_pos m.out)) cols in
      let r : (slot_of m.out (a / w)).clock < (slot_of m.out (b / w)).clock = order_at m.out size.lengths (a / w) (b / w) ea eb parts.0
      (less_part a b w l parts.1) in
      let ca : t.clock ≡ (slot_of m.out (a / w)).clock = ap (λ (v : TripTree). v.clock) x.1 in
      let cb : u.clock ≡ (slot_of m.out (b / w)).clock = ap (λ (v : TripTree). v.clock) y.1 in
      rw (ca, cb) r;
}

-- ---- each lane has an element

pub record OnLane (s : StTree) (lane : ℕ) : Type 0 where
  pub element : ℕ
  pub below : element < st_atoms s
  pub is : (slot_of s element).lane ≡ lane

pub on_lane : (s : StTree) → HasLengths s → (l : ℕ) → l < lanes s → OnLane s l
on_lane (atom a) h l small = record { element = 0; below = omega arith; is = omega arith }
on_lane (tseq n i t) h l small =
    let r = on_lane t h.1 l small in
    let size : length (slots t) ≡ st_atoms t = length-slots t in
    let slot = unwrap_or-slice_get (slots (tseq n i t)) (0 * length (slots t) + r.element) (slot_at 0 0)
    ∙ (get_or-copies n (time t) 0 (slots t) 0 r.element (slot_at 0 0) h.0 (omega (arith, r.below))
    ∙ ap (moved (0 * time t) (0 * 0)) (sym (unwrap_or-slice_get (slots t) r.element (slot_at 0 0)))) in
    let z : 0 * length (slots t) + r.element ≡ r.element = omega arith in
    let below : r.element < n * st_atoms t = omega (arith, in_row 0 r.element n (st_atoms t) h.0 r.below) in
    record {
      element = r.element;
      below = below;
      is = ap (λ (v : Slot). v.lane) (rw z at slot) ∙
          (let x : 0 * 0 + (slot_of t r.element).lane ≡ (slot_of t r.element).lane = omega arith in x ∙ r.is);
    }
on_lane (sseq n t) h l small =
    let pos : 0 < lanes t = lanes_pos t h.1 in
    let q : l / lanes t < n = div_below l (lanes t) n pos small in
    let r = on_lane t h.1 (l % lanes t) (mod_below l (lanes t) pos) in
    let size : length (slots t) ≡ st_atoms t = length-slots t in
    let slot = unwrap_or-slice_get (slots (sseq n t)) (l / lanes t * length (slots t) + r.element) (slot_at 0 0)
    ∙ (get_or-copies n 0 (lanes t) (slots t) (l / lanes t) r.element (slot_at 0 0) q (omega (arith, r.below))
    ∙ ap (moved (l / lanes t * 0) (l / lanes t * lanes t)) (sym (unwrap_or-slice_get (slots t) r.element (slot_at 0 0)))) in
    let at : l / lanes t * length (slots t) + r.element ≡ l / lanes t * st_atoms t + r.element = ap (λ x. l / lanes t * x + r.element) size in
    record {
      element = l / lanes t * st_atoms t + r.element;
      below = in_row (l / lanes t) r.element n (st_atoms t) q r.below;
      is = ap (λ (v : Slot). v.lane) (rw at at slot) ∙ (ap (λ x. l / lanes t * lanes t + x) r.is ∙ div-add-mod' l (lanes t));
    }

-- each column has a trip
pub used : (m : Move) (trips : List Trip) → IsInSize m.out → map trip_tree trips ≡ move_trips m → AreUsed (columns_of m.out) trips
used m trips size e = record {
  each = λ q l.
      let w : ℕ = element_words m.out in
      let r = on_lane m.out size.lengths (q / w) (div_below q w (lanes m.out) (words_pos m.out) l) in
      let j : q % w < w = mod_below q w (words_pos m.out) in
      let n : ℕ = r.element * w + q % w in
      let small : n < st_atoms m.out * w = in_row r.element (q % w) (st_atoms m.out) w r.below j in
      let t = trip_there m.ins m.out m.origins trips e n small in
      let x = trip_at m.ins m.out m.origins trips e n t.0 t.1 in
      let d : n / w ≡ r.element = div-mul-add r.element w (q % w) j in
      let c : n % w ≡ q % w = mod-mul-add r.element w (q % w) j in
      let column : t.0.column ≡ (slot_of m.out (n / w)).lane * w + n % w = ap (λ (v : TripTree). v.column) x.1 in
      let lane : (slot_of m.out (n / w)).lane ≡ q / w = ap (λ i. (slot_of m.out i).lane) d ∙ r.is in
      (n, t.0, t.1, column ∙ (rw (lane, c) (div-add-mod' q w)));
}

-- ---- within the period, the columns and the latency

in_by : (n : ℕ) (x : Source) (tree : SourceTree) → source_tree x ≡ tree → InTree n tree → IsIn n x
in_by n (Place k q) tree e h = subst (InTree n) (sym e) h
in_by n (Fixed w) tree e h = tt

lead_by : (d c : ℕ) (x : Source) → lead_from c (source_tree x) ≤ d → IsReached d c x
lead_by d c (Place k q) h = omega arith
lead_by d c (Fixed w) h = tt

pub within : (m : Move) (trips : List Trip) → IsMove m → map trip_tree trips ≡ move_trips m
    → AreWithin (time m.out) (move_latency m) (sum_by columns_of m.ins) (columns_of m.out) trips
within m trips h e = record {
  clock = λ n t f.
      let x = trip_at m.ins m.out m.origins trips e n t f in
      let en : n / element_words m.out < st_atoms m.out = div_below n (element_words m.out) (st_atoms m.out) (words_pos m.out) x.0 in
      rw (ap (λ (v : TripTree). v.clock) x.1) (slot_below m.out h.out.lengths (n / element_words m.out) en).0;
  column = λ n t f.
      let x = trip_at m.ins m.out m.origins trips e n t f in
      let en : n / element_words m.out < st_atoms m.out = div_below n (element_words m.out) (st_atoms m.out) (words_pos m.out) x.0 in
      rw (ap (λ (v : TripTree). v.column) x.1) (column_below m.out h.out (n / element_words m.out) (n % element_words m.out) en
      (mod_below n (element_words m.out) (words_pos m.out)));
  reached = λ n t f.
      let l = fold_ge (λ (v : TripTree). lead_from v.clock v.source) 0 (map trip_tree trips) n (trip_tree t) (get_mapped trip_tree trips n t f) in
      lead_by (move_latency m) t.clock t.source (rw e at l);
  source = λ n t f.
      let x = trip_at m.ins m.out m.origins trips e n t f in
      let o = origin_at m n h x.0 in
      in_by (sum_by columns_of m.ins) t.source _ (ap (λ (v : TripTree). v.source) x.1)
      (origin_in m.ins o.0 (unwrap_or (slice_get m.origins n) (fixed 0)) (sizes_of m h) o.2);
}

-- ---- the latency is within the period
