-- What the code finds in layouts and origins.
use Rattle.std.proofs.Common.{ℕ, ◌≡◌, ◌+◌, ◌-◌, ◌*◌, ◌/◌, ◌%◌, ◌<◌, ◌≤◌, max, inl, inr, List, ◌∷◌, ◌++◌, [], length, map, sum_by, Some, slice_get, get_or, arith, refl, sym, ap, ◌∙◌}
use Rattle.std.specs.List.{range_with_len}
use Rattle.std.specs.Prelude.{unwrap_or}
use Rattle.std.proofs.lemmas.Bool.{cases_eq}
use Rattle.std.proofs.lemmas.List.{length-map, map-append}
use Rattle.std.proofs.lemmas.List.FromFn.{map-range_with_len_more}
use Rattle.std.proofs.lemmas.List.Sums.{fold-append}
use Rattle.std.proofs.lemmas.Nat.{div_below}
use Rattle.std.proofs.lemmas.Option.{slice_get_within, slice_get-get_or}
use Rattle.ae_sttype.specs.declared.st_type.StType.{StType}
use Rattle.ae_sttype.specs.declared.st_type.Slot.{Slot}
use Rattle.ae_sttype.specs.StTree.{StTree, atom, sseq, lanes, st_atoms, st_tree, element_words}
use Rattle.ae_sttype.specs.Slots.{slots}
use Rattle.ae_sttype.specs.Size.{IsInSize}
use Rattle.ae_sttype.specs.Moves.{OriginTree, SourceTree, TripTree, place, from_input, fixed, columns_of, column_number, first_column, latency_of_trips, lead_from, slot_number, source_of, trip_number, trips_of}
use Rattle.ae_sttype.proofs.Places.{slot_below, slot_of, row_below as in_row}
use Rattle.ae_word.specs.AtomTree.{unsigned_word}
use Rattle.ae_moves.specs.declared.trip.Origin.{Origin}
use Rattle.ae_moves.specs.declared.trip.Trip.{Trip}
use Rattle.ae_moves.specs.Trees.{origin_tree, source_tree, trip_tree}
use Rattle.ae_moves.specs.Origins.{HasOrigin, IsMove, width_at}
use Rattle.ae_moves.proofs.Lists.{get_mapped}
use Rattle.ae_moves.proofs.Words.{first_below, origin_at, word_below, words_pos}

-- the layout of an input by its number
pub mapped_is : (ins : List StType) (i : ℕ) (s : StTree) (r : StType) → slice_get (map st_tree ins) i ≡ Some s → slice_get ins i ≡ Some r → st_tree r ≡ s
mapped_is ins i s r f g = let h : slice_get (map st_tree ins) i ≡ Some (st_tree r) = get_mapped st_tree ins i r g in cc

pub origin_there : (ins : List StType) (i e j width : ℕ) (r : StType) → HasOrigin (map st_tree ins) width (from_input i e j) → slice_get ins i ≡ Some r
    → (e < st_atoms (st_tree r)) × (width_at (st_tree r) j ≡ Some width)
origin_there ins i e j width r h g = let same : st_tree r ≡ h.0 = mapped_is ins i h.0 r h.1 g in rw same (h.2, h.3)

pub input_below : (ins : List StType) (i e j width : ℕ) → HasOrigin (map st_tree ins) width (from_input i e j) → i < length ins
input_below ins i e j width h = let l : i < length (map st_tree ins) = slice_get_within (map st_tree ins) i h.0 h.1 in omega (arith, length-map ins st_tree)

pub lane_below : (s : StTree) (slot : Slot) (e j width : ℕ) → IsInSize s → e < st_atoms s → slice_get (slots s) e ≡ Some slot → width_at s j ≡ Some width
    → slot.lane * element_words s + j < columns_of s
lane_below s slot e j width size l found wide =
    let is : slot_of s e ≡ slot = ap (λ o. unwrap_or o (record { clock = 0; lane = 0 })) found in
    let lane : slot.lane < lanes s = rw is at (slot_below s size.lengths e l).1 in
    in_row slot.lane j (lanes s) (element_words s) lane (word_below s j width wide)

pub source_is : (ins : List StType) (i e j first column : ℕ) (r : StType) (slot : Slot) → slice_get ins i ≡ Some r
    → slice_get (slots (st_tree r)) e ≡ Some slot → first ≡ first_column (map st_tree ins) i → column ≡ slot.lane * element_words (st_tree r) + j
    → place slot.clock (first + column) ≡ source_of (map st_tree ins) (from_input i e j)
source_is ins i e j first column r slot found at ef ec =
    let is : unwrap_or (slice_get (map st_tree ins) i) (sseq 0 (atom (unsigned_word 1))) ≡ st_tree r =
    ap (λ o. unwrap_or o (sseq 0 (atom (unsigned_word 1)))) (get_mapped st_tree ins i r found) in
    let so : slot_of (st_tree r) e ≡ slot = ap (λ o. unwrap_or o (record { clock = 0; lane = 0 })) at in
    rw (is, so, ef, ec) refl

pub lead_is : (ins : List StType) (i e j c : ℕ) (r : StType) (slot : Slot) → slice_get ins i ≡ Some r → slice_get (slots (st_tree r)) e ≡ Some slot
    → slot.clock - c ≡ lead_from c (source_of (map st_tree ins) (from_input i e j))
lead_is ins i e j c r slot found at =
    let is : unwrap_or (slice_get (map st_tree ins) i) (sseq 0 (atom (unsigned_word 1))) ≡ st_tree r =
    ap (λ o. unwrap_or o (sseq 0 (atom (unsigned_word 1)))) (get_mapped st_tree ins i r found) in
    let so : slot_of (st_tree r) e ≡ slot = ap (λ o. unwrap_or o (record { clock = 0; lane = 0 })) at in
    rw (is, so) refl

pub first_room : (ins : List StType) (i c : ℕ) (r : StType) → slice_get ins i ≡ Some r → c < columns_of (st_tree r)
    → first_column (map st_tree ins) i + c < sum_by columns_of (map st_tree ins)
first_room ins i c r found l = first_below (map st_tree ins) i c (st_tree r) (get_mapped st_tree ins i r found) l

pub sizes_in : (ins : List StType) (out : StTree) (origins : List OriginTree) → IsMove (record { ins = map st_tree ins; out = out; origins = origins })
    → (i : ℕ) (t : StType) → slice_get ins i ≡ Some t → IsInSize (st_tree t)
sizes_in ins out origins h i t f = (h.types i (st_tree t) (get_mapped st_tree ins i t f)).0

-- the origin of an output word is there
pub there_at : (ins : List StTree) (out : StTree) (source : List Origin) (o : ℕ) (d : Origin)
    → IsMove (record { ins = ins; out = out; origins = map origin_tree source }) → o < length source → (width : ℕ)
    × HasOrigin ins width (origin_tree (get_or source o d))
there_at ins out source o d h l =
    let long : length (map origin_tree source) ≡ length source = length-map source origin_tree in
    let count : length (map origin_tree source) ≡ st_atoms out * element_words out = h.count in
    let x = origin_at (record { ins = ins; out = out; origins = map origin_tree source }) o h (omega arith) in
    let at : slice_get (map origin_tree source) o ≡ Some (origin_tree (get_or source o d)) = get_mapped origin_tree source o (get_or source o d)
    (slice_get-get_or source o d l) in
    let is : unwrap_or (slice_get (map origin_tree source) o) (fixed 0) ≡ origin_tree (get_or source o d) = ap (λ o. unwrap_or o (fixed 0)) at in
    (x.0, rw is at x.2)

pub words_below : (ins : List StTree) (out : StTree) (source : List Origin) (o : ℕ)
    → IsMove (record { ins = ins; out = out; origins = map origin_tree source }) → o < length source → o < st_atoms out * element_words out
words_below ins out source o h l =
    let long : length (map origin_tree source) ≡ length source = length-map source origin_tree in
    let count : length (map origin_tree source) ≡ st_atoms out * element_words out = h.count in omega arith

pub few_words : (ins : List StTree) (out : StTree) (source : List Origin) → IsMove (record { ins = ins; out = out; origins = map origin_tree source })
    → length source ≤ 16384
few_words ins out source h =
    let long : length (map origin_tree source) ≡ length source = length-map source origin_tree in
    let count : length (map origin_tree source) ≡ st_atoms out * element_words out = h.count in omega (arith, h.out.in_words)

pub all_words : (ins : List StTree) (out : StTree) (source : List Origin) → IsMove (record { ins = ins; out = out; origins = map origin_tree source })
    → length source ≡ st_atoms out * element_words out
all_words ins out source h = sym (length-map source origin_tree) ∙ h.count

abbrev made_trip : (a b : ℕ) → SourceTree → TripTree
made_trip a b x = record { clock = a; column = b; source = x }

pub trip_same : (t u : TripTree) → t.clock ≡ u.clock → t.column ≡ u.column → t.source ≡ u.source → t ≡ u
trip_same t u p q r = ap (λ a. made_trip a t.column t.source) p ∙ (ap (λ b. made_trip u.clock b t.source) q ∙ ap (made_trip u.clock u.column) r)

-- one trip more
pub trips_more : (ins : List StTree) (out : StTree) (source : List Origin) (o : ℕ) (d : Origin) (trips : List Trip) (t : Trip)
    → map trip_tree trips ≡ map (trip_number ins out (map origin_tree source)) (range_with_len 0 o) → o < length source
    → t.clock ≡ (slot_number out (o / element_words out)).clock → t.column ≡ column_number out (o / element_words out) (o % element_words out)
    → source_tree t.source ≡ source_of ins (origin_tree (get_or source o d))
    → map trip_tree (trips ++ t ∷ []) ≡ map (trip_number ins out (map origin_tree source)) (range_with_len 0 (o + 1))
trips_more ins out source o d trips t h l ec eq es =
    let at : slice_get (map origin_tree source) o ≡ Some (origin_tree (get_or source o d)) = get_mapped origin_tree source o (get_or source o d)
    (slice_get-get_or source o d l) in
    let is : unwrap_or (slice_get (map origin_tree source) o) (fixed 0) ≡ origin_tree (get_or source o d) = ap (λ o. unwrap_or o (fixed 0)) at in
    let same : trip_tree t ≡ trip_number ins out (map origin_tree source) o = trip_same (trip_tree t) (trip_number ins out (map origin_tree source) o) ec eq
    (es ∙ ap (source_of ins) (sym is)) in
    map-append trip_tree trips (t ∷ []) ∙ (ap (λ ts. ts ++ trip_tree t ∷ []) h ∙
    (ap (λ x. map (trip_number ins out (map origin_tree source)) (range_with_len 0 o) ++ x ∷ []) same ∙
    sym (map-range_with_len_more (trip_number ins out (map origin_tree source)) 0 o o (omega arith))))

pub trips_all : (ins : List StTree) (out : StTree) (source : List Origin) (o : ℕ) (trips : List Trip)
    → IsMove (record { ins = ins; out = out; origins = map origin_tree source }) → o ≤ length source → length source ≤ o
    → map trip_tree trips ≡ map (trip_number ins out (map origin_tree source)) (range_with_len 0 o)
    → map trip_tree trips ≡ trips_of ins out (map origin_tree source)
trips_all ins out source o trips h l m e =
    let all : o ≡ st_atoms out * element_words out = omega (arith, all_words ins out source h) in
    e ∙ ap (λ n. map (trip_number ins out (map origin_tree source)) (range_with_len 0 n)) all

-- one lead more
pub latency_more : (ins : List StTree) (out : StTree) (source : List Origin) (o most lead now : ℕ) (d : Origin)
    → most ≡ latency_of_trips (map (trip_number ins out (map origin_tree source)) (range_with_len 0 o)) → o < length source
    → lead ≡ lead_from (slot_number out (o / element_words out)).clock (source_of ins (origin_tree (get_or source o d))) → now ≡ max most lead
    → now ≡ latency_of_trips (map (trip_number ins out (map origin_tree source)) (range_with_len 0 (o + 1)))
latency_more ins out source o most lead now d h l el en =
    let at : slice_get (map origin_tree source) o ≡ Some (origin_tree (get_or source o d)) = get_mapped origin_tree source o (get_or source o d)
    (slice_get-get_or source o d l) in
    let is : unwrap_or (slice_get (map origin_tree source) o) (fixed 0) ≡ origin_tree (get_or source o d) = ap (λ o. unwrap_or o (fixed 0)) at in
    let f : TripTree → ℕ = λ (v : TripTree). lead_from v.clock v.source in
    let here : lead ≡ f (trip_number ins out (map origin_tree source) o) = el ∙
    ap (λ x. lead_from (slot_number out (o / element_words out)).clock (source_of ins x)) (sym is) in
    en ∙ (ap (λ n. max n lead) h ∙ (ap (λ n. max (latency_of_trips (map (trip_number ins out (map origin_tree source)) (range_with_len 0 o))) n) here
    ∙ (sym (fold-append (λ most' (t : TripTree). max most' (lead_from t.clock t.source)) 0
    (map (trip_number ins out (map origin_tree source)) (range_with_len 0 o)) (trip_number ins out (map origin_tree source) o ∷ []))
    ∙ ap latency_of_trips (sym (map-range_with_len_more (trip_number ins out (map origin_tree source)) 0 o o (omega arith))))))

pub latency_all : (ins : List StTree) (out : StTree) (source : List Origin) (o most : ℕ)
    → IsMove (record { ins = ins; out = out; origins = map origin_tree source }) → o ≤ length source → length source ≤ o
    → most ≡ latency_of_trips (map (trip_number ins out (map origin_tree source)) (range_with_len 0 o))
    → most ≡ latency_of_trips (trips_of ins out (map origin_tree source))
latency_all ins out source o most h l m e =
    let all : o ≡ st_atoms out * element_words out = omega (arith, all_words ins out source h) in
    e ∙ ap (λ n. latency_of_trips (map (trip_number ins out (map origin_tree source)) (range_with_len 0 n))) all

pub below_one : (P : ℕ → Type 0) (k n : ℕ) → ((i : ℕ) → i < k → P i) → P k → n < k + 1 → P n
below_one P k n h here l = elim (cases_eq n k) [
  | inl e ↦ rw e here
  | inr ne ↦ h n (omega arith)
]

-- the slot that was found for an output word, where its element has w words
pub slot_of_word : (s : StTree) (o w : ℕ) (slot : Slot) → w ≡ element_words s → slice_get (slots s) (o / w) ≡ Some slot →
    slot ≡ slot_number s (o / element_words s)
slot_of_word s o w slot e found =
    sym (ap (λ o. unwrap_or o (record { clock = 0; lane = 0 })) found) ∙ ap (λ k. slot_number s (o / k)) e

pub element_below : (s : StTree) (o w : ℕ) → w ≡ element_words s → o < st_atoms s * element_words s → o / w < st_atoms s
element_below s o w e h = rw e (div_below o (element_words s) (st_atoms s) (omega (arith, words_pos s)) h)
