-- Where the elements of layouts stand that take the clocks of a block.
use Rattle.std.proofs.Common.{ℕ, zero, suc, ◌≡◌, ◌+◌, ◌*◌, ◌%◌, ◌<◌, true, List, [], ◌∷◌, map, take, sum_by, Some, slice_get, zero-add, arith, refl, sym, ap, ◌∙◌, subst}
use Rattle.std.specs.Prelude.{◌||◌, ◌&&◌}
use Rattle.std.proofs.lemmas.List.Sums.{sum_by-append, sum_by-take-le}
use Rattle.std.proofs.lemmas.Nat.{mul-add-lt}
use Rattle.ae_sttype.specs.declared.st_type.Slot.{Slot}
use Rattle.ae_sttype.specs.declared.st_type.StType.{StType}
use Rattle.ae_sttype.specs.StTree.{StTree, atom, tseq, sseq, element_words, lanes, st_tree, time}
use Rattle.ae_sttype.specs.Size.{HasLengths}
use Rattle.ae_sttype.specs.Slots.{slots}
use Rattle.ae_sttype.specs.Moves.{columns_of, first_column}
use Rattle.ae_sttype.proofs.Bounds.{element_words_pos, lanes_pos, time_pos, product_pos as some_product}
use Rattle.ae_sttype.proofs.Places.{slot_below, stands_from_get}
use Rattle.ae_stream.specs.Streams.{in_clock, is_beat}
use Rattle.ae_stream.specs.Control.{AreWithin}
use Rattle.ae_streamed.specs.Beats.{AreLayouts}
use Rattle.ae_streamed.proofs.Beats.{in_slots_across, in_slots_later}
use Rattle.ae_stall.proofs.Counted.{take_found}
use Rattle.ae_stream.proofs.Flags.{lt_is}

-- an element of a list, each by a function, is one of the list
pub of_mapped : {X Y : Type 0} (f : X → Y) (xs : List X) (n : ℕ) (y : Y) → slice_get (map f xs) n ≡ Some y → (x : X) × (slice_get xs n ≡ Some x) × (f x ≡ y)
of_mapped f [] n y h = cc
of_mapped f (x ∷ xs) zero y h = (x, refl, cc)
of_mapped f (x ∷ xs) (suc n) y h = of_mapped f xs n y h

-- the layouts before one, and it, have no more columns than all
first_below : (layouts : List StTree) (q c : ℕ) (s : StTree) → slice_get layouts q ≡ Some s → c < columns_of s
    → first_column layouts q + c < sum_by columns_of layouts
first_below layouts q c s found l =
    let next : sum_by columns_of (take (q + 1) layouts) ≡ sum_by columns_of (take q layouts) + columns_of s =
    ap (sum_by columns_of) (take_found layouts q s found) ∙
    (sum_by-append columns_of (take q layouts) (s ∷ []) ∙ ap (λ n. sum_by columns_of (take q layouts) + n) (zero-add (columns_of s))) in
    omega (arith, next, l, sum_by-take-le columns_of layouts (q + 1))

-- some element stands in the first clock
first_live : (s : StTree) → HasLengths s → in_clock (slots s) 0 ≡ true
first_live (atom a) h = refl
first_live (tseq n i t) h =
    let some : 0 < n * time t = some_product n (time t) h.0 (time_pos t h.1) in
    let z : 0 % time t ≡ 0 = omega (arith, time_pos t h.1) in
    in_slots_later n i t 0 h ∙ (ap (λ b. b && in_clock (slots t) (0 % time t)) (lt_is 0 (n * time t) some) ∙ (ap (in_clock (slots t)) z ∙ first_live t h.1))
first_live (sseq n t) h = in_slots_across n t 0 h ∙ first_live t h.1

pub slot_in : (s : StTree) → HasLengths s → (e : ℕ) (w : Slot) → slice_get (slots s) e ≡ Some w → (w.clock < time s) × (w.lane < lanes s)
slot_in s h e w found =
    let at = stands_from_get s e w.clock w.lane found in
    subst (λ (v : Slot). (v.clock < time s) × (v.lane < lanes s)) at.is (slot_below s h e at.below)

pub within : (layouts : List StType) (slowdown : ℕ) → AreLayouts slowdown layouts
    → AreWithin (map st_tree layouts) slowdown (sum_by columns_of (map st_tree layouts))
within layouts slowdown h = record {
  within = λ q s e w found there.
      let one = of_mapped st_tree layouts q s found in
      let good = h.each q one.0 one.1 in
      let size : HasLengths s = subst HasLengths one.2 good.0.lengths in
      let long : time s ≡ slowdown = sym (ap time one.2) ∙ good.1 in
      omega (arith, (slot_in s size e w there).0, long);
  small = λ q s e j w found there few.
      let one = of_mapped st_tree layouts q s found in
      let good = h.each q one.0 one.1 in
      let size : HasLengths s = subst HasLengths one.2 good.0.lengths in
      first_below (map st_tree layouts) q (w.lane * element_words s + j) s found (column w.lane (element_words s) j (lanes s) (slot_in s size e w there).1 few);
  first = beats layouts h;
}
  where
    column : (lane words j lanes : ℕ) → lane < lanes → j < words → lane * words + j < lanes * words
    column lane words j lanes l m = omega (arith, mul-add-lt lane words j lanes l m)

    beats : (layouts : List StType) → AreLayouts slowdown layouts → is_beat (map st_tree layouts) 0 ≡ true
    beats [] h = absurd (omega (arith, h.some))
    beats (x ∷ xs) h = ap (λ b. b || is_beat (map st_tree xs) 0) (first_live (st_tree x) (h.each 0 x refl).0.lengths)

-- layouts have a column
pub some_columns : (layouts : List StType) (slowdown : ℕ) → AreLayouts slowdown layouts → 0 < sum_by columns_of (map st_tree layouts)
some_columns [] slowdown h = absurd (omega (arith, h.some))
some_columns (x ∷ xs) slowdown h =
    let size = (h.each 0 x refl).0.lengths in
    let one : 0 < columns_of (st_tree x) = some_product (lanes (st_tree x)) (element_words (st_tree x)) (lanes_pos (st_tree x) size)
    (element_words_pos (st_tree x)) in
    omega (arith, first_below (map st_tree (x ∷ xs)) 0 0 (st_tree x) refl one)
