-- The words of a move between layouts in size.
use Rattle.std.proofs.Common.{ℕ, suc, ◌≡◌, ◌+◌, ◌*◌, ◌/◌, ◌%◌, ◌<◌, ◌≤◌, max, fold, inl, inr, false, List, ◌∷◌, [], length, map, sum_by, Some, None, slice_get, get_or, option_map, arith, refl, sym, ap, ◌∙◌}
use Rattle.std.specs.List.{range_with_len}
use Rattle.std.specs.Prelude.{unwrap_or}
use Rattle.std.proofs.Math.Nat.{mul-le-mul_right}
use Rattle.std.proofs.lemmas.List.{length-map}
use Rattle.std.proofs.lemmas.List.FromFn.{length-map-range_with_len}
use Rattle.std.proofs.lemmas.Bool.{cases_lt}
use Rattle.std.proofs.lemmas.Nat.{mod_below}
use Rattle.std.proofs.lemmas.Option.{slice_get_past, slice_get_within, slice_get-get_or, unwrap_or-slice_get}
use Rattle.ae_word.specs.AtomTree.{WordKind, atom_kinds, unsigned_word}
use Rattle.ae_word.proofs.Sizes.{length-atom_kinds}
use Rattle.ae_seqtype.proofs.Sizes.{one-atom_words}
use Rattle.ae_sttype.specs.StTree.{StTree, atom, sseq, time, lanes, st_atoms, element_atom, element_words}
use Rattle.ae_sttype.specs.Size.{IsInSize}
use Rattle.ae_sttype.specs.Moves.{OriginTree, SourceTree, TripTree, place, constant, from_input, fixed, columns_of, column_number, first_column, lead_from, source_of, trip_number, trips_of}
use Rattle.ae_sttype.proofs.Bounds.{lanes-le-atoms}
use Rattle.ae_sttype.proofs.Places.{slot_below, slot_of, row_below as in_row}
use Rattle.ae_moves.specs.declared.trip.Trip.{Trip}
use Rattle.ae_moves.specs.declared.trip.Source.TheVariants.{Fixed}
use Rattle.ae_moves.specs.Trees.{trip_tree}
use Rattle.ae_moves.specs.Origins.{HasOrigin, IsMove, Move, move_latency, move_trips, width_at}
use Rattle.ae_moves.proofs.Lists.{get_mapped, range_get, sum_next, sum_part}

pub words_pos : (s : StTree) → 1 ≤ element_words s
words_pos s = one-atom_words (element_atom s)

pub sizes_of : (m : Move) → IsMove m → (i : ℕ) (s : StTree) → slice_get m.ins i ≡ Some s → IsInSize s
sizes_of m h i s f = (h.types i s f).0

pub trip_at : (ins : List StTree) (out : StTree) (origins : List OriginTree) (trips : List Trip) → map trip_tree trips ≡ trips_of ins out origins
    → (n : ℕ) (t : Trip) → slice_get trips n ≡ Some t
    → (n < st_atoms out * element_words out) × (trip_tree t ≡ trip_number ins out origins n)
trip_at ins out origins trips e n t found =
    let all : ℕ = st_atoms out * element_words out in
    let l : n < length trips = slice_get_within trips n t found in
    let long : length trips ≡ all = sym (length-map trips trip_tree) ∙ (ap length e ∙ length-map-range_with_len (trip_number ins out origins) 0 all) in
    let small : n < all = omega arith in
    let a : slice_get (map trip_tree trips) n ≡ Some (trip_tree t) = get_mapped trip_tree trips n t found in
    let z : 0 + n ≡ n = omega arith in
    let b : slice_get (trips_of ins out origins) n ≡ Some (trip_number ins out origins n) = get_mapped (trip_number ins out origins) (range_with_len 0 all) n n
    (rw z at (range_get 0 all n small)) in
    let c : slice_get (map trip_tree trips) n ≡ Some (trip_number ins out origins n) = rw e b in
    let same : trip_tree t ≡ trip_number ins out origins n = cc in
    (small, same)

-- the trip of a number is there
pub trip_there : (ins : List StTree) (out : StTree) (origins : List OriginTree) (trips : List Trip) → map trip_tree trips ≡ trips_of ins out origins → (n : ℕ)
    → n < st_atoms out * element_words out
    → (t : Trip) × (slice_get trips n ≡ Some t)
trip_there ins out origins trips e n l =
    let long : length trips ≡ st_atoms out * element_words out = sym (length-map trips trip_tree) ∙
    (ap length e ∙ length-map-range_with_len (trip_number ins out origins) 0 (st_atoms out * element_words out)) in
    let none : Trip = record { clock = 0; column = 0; source = Fixed 0 } in
    (get_or trips n none, slice_get-get_or trips n none (omega arith))

-- where a word of an element stands among the columns of its layout
pub column_below : (s : StTree) → IsInSize s → (e j : ℕ) → e < st_atoms s → j < element_words s → column_number s e j < columns_of s
column_below s size e j le lj = in_row (slot_of s e).lane j (lanes s) (element_words s) (slot_below s size.lengths e le).1 lj

pub word_below : (s : StTree) (j width : ℕ) → width_at s j ≡ Some width → j < element_words s
word_below s j width h = elim (cases_lt j (length (atom_kinds (element_atom s)))) [
  | inl l ↦ omega (arith, length-atom_kinds (element_atom s))
  | inr l ↦ (let none : slice_get (atom_kinds (element_atom s)) j ≡ None = slice_get_past (atom_kinds (element_atom s)) j l in
      let x : option_map (λ (k : WordKind). k.width) None ≡ Some width = rw none at h in cc)
]

-- the inputs before one, and it, have no more columns than all
pub first_below : (ins : List StTree) (i c : ℕ) (s : StTree) → slice_get ins i ≡ Some s → c < columns_of s → first_column ins i + c < sum_by columns_of ins
first_below ins i c s found l = omega (arith, sum_next columns_of ins i s found, sum_part columns_of ins (i + 1))

abbrev pub InTree : ℕ → SourceTree → Type 0
InTree n (place k q) = q < n
InTree n (constant w) = Unit {0}

pub origin_in : (ins : List StTree) (width : ℕ) (o : OriginTree) → ((i : ℕ) (s : StTree) → slice_get ins i ≡ Some s → IsInSize s) → HasOrigin ins width o
    → InTree (sum_by columns_of ins) (source_of ins o)
origin_in ins width (from_input i e j) sizes h =
    let is : unwrap_or (slice_get ins i) (sseq 0 (atom (unsigned_word 1))) ≡ h.0 = ap (λ o. unwrap_or o (sseq 0 (atom (unsigned_word 1)))) h.1 in
    rw is (first_below ins i (column_number h.0 e j) h.0 h.1 (column_below h.0 (sizes i h.0 h.1) e j h.2 (word_below h.0 j width h.3)))
origin_in ins width (fixed w) sizes h = tt

-- the origin of an output word
pub origin_at : (m : Move) (n : ℕ) → IsMove m → n < st_atoms m.out * element_words m.out
    → (width : ℕ) × (width_at m.out (n % element_words m.out) ≡ Some width) × HasOrigin m.ins width (unwrap_or (slice_get m.origins n) (fixed 0))
origin_at m n h l =
    let w : ℕ = element_words m.out in
    let j : n % w < w = mod_below n w (words_pos m.out) in
    let none : WordKind = record { signed = false; width = 0 } in
    let kinds : List WordKind = atom_kinds (element_atom m.out) in
    let k : WordKind = get_or kinds (n % w) none in
    let there : slice_get kinds (n % w) ≡ Some k = slice_get-get_or kinds (n % w) none (omega (arith, length-atom_kinds (element_atom m.out))) in
    let wide : width_at m.out (n % w) ≡ Some k.width = ap (option_map (λ (x : WordKind). x.width)) there in
    let found : slice_get m.origins n ≡ Some (unwrap_or (slice_get m.origins n) (fixed 0)) =
    rw (unwrap_or-slice_get m.origins n (fixed 0)) (slice_get-get_or m.origins n (fixed 0) (omega (arith, h.count))) in
    (k.width, wide, h.origins n k.width _ found wide)

pub lead_le : {X : Type 0} (f : X → ℕ) (a m : ℕ) (xs : List X) → a ≤ m → ((x : X) (n : ℕ) → slice_get xs n ≡ Some x → f x ≤ m)
    → fold (λ most x. max most (f x)) a xs ≤ m
lead_le f a m [] l h = l
lead_le f a m (x ∷ xs) l h = let here : f x ≤ m = h x 0 refl in lead_le f (max a (f x)) m xs (omega arith) (λ y n g. h y (suc n) g)

pub source_lead : (m : Move) (c width : ℕ) (o : OriginTree) → IsMove m → HasOrigin m.ins width o → lead_from c (source_of m.ins o) ≤ time m.out
source_lead m c width (from_input i e j) h o =
    let is : unwrap_or (slice_get m.ins i) (sseq 0 (atom (unsigned_word 1))) ≡ o.0 = ap (λ o. unwrap_or o (sseq 0 (atom (unsigned_word 1)))) o.1 in
    let l : (slot_of o.0 e).clock < time o.0 = (slot_below o.0 (h.types i o.0 o.1).0.lengths e o.2).0 in
    let t : time o.0 ≡ time m.out = (h.types i o.0 o.1).1 in
    rw is (omega arith)
source_lead m c width (fixed w) h o = omega arith

pub latency_small : (m : Move) → IsMove m → move_latency m ≤ 4096
latency_small m h =
    let all : ℕ = st_atoms m.out * element_words m.out in
    let most : move_latency m ≤ time m.out =
    lead_le (λ (v : TripTree). lead_from v.clock v.source) 0 (time m.out) (move_trips m) (omega arith) (λ x n f.
    (let l : n < length (move_trips m) = slice_get_within (move_trips m) n x f in
    let long : length (move_trips m) ≡ all = length-map-range_with_len (trip_number m.ins m.out m.origins) 0 all in
    let small : n < all = omega arith in
    let z : 0 + n ≡ n = omega arith in
    let b : slice_get (move_trips m) n ≡ Some (trip_number m.ins m.out m.origins n) = get_mapped (trip_number m.ins m.out m.origins) (range_with_len 0 all) n n
    (rw z at (range_get 0 all n small)) in
    let same : trip_number m.ins m.out m.origins n ≡ x = cc in
    let o = origin_at m n h small in
    rw (← same) (source_lead m (slot_of m.out (n / element_words m.out)).clock o.0 (unwrap_or (slice_get m.origins n) (fixed 0)) h o.2))) in
    omega (arith, h.out.in_time)

pub columns_small : (s : StTree) → IsInSize s → columns_of s ≤ 16384
columns_small s h =
    let l : lanes s * element_words s ≤ st_atoms s * element_words s = mul-le-mul_right (element_words s) (lanes-le-atoms s h.lengths) in
    omega (arith, h.in_words)

pub trips_few : (m : Move) (trips : List Trip) → IsMove m → map trip_tree trips ≡ move_trips m → length trips ≤ 16384
trips_few m trips h e =
    let all : ℕ = st_atoms m.out * element_words m.out in
    let long : length trips ≡ all = sym (length-map trips trip_tree) ∙ (ap length e ∙ length-map-range_with_len (trip_number m.ins m.out m.origins) 0 all) in
    omega (arith, h.out.in_words)

-- one layout in size has few columns
pub one_room : (s : StTree) → IsInSize s → sum_by columns_of (s ∷ []) < 4294967296
one_room s h = omega (arith, columns_small s h)
