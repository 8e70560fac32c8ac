-- Tables of clocks, one step at a time, and the arrivals of items by them.
use Rattle.std.proofs.Common.{◌≡◌, ℕ, zero, suc, ◌+◌, ◌-◌, ◌*◌, ◌/◌, ◌%◌, ◌<◌, inl, inr, List, [], ◌∷◌, ◌++◌, length, take, map, get_or, Some, slice_get, refl, arith, sym, ap, ◌∙◌, append_assoc, max}
use Rattle.std.specs.Prelude.{flat_map, fold, unwrap_or}
use Rattle.std.specs.List.{range_with_len}
use Rattle.std.proofs.lemmas.Bool.{cases_lt}
use Rattle.std.proofs.lemmas.Nat.{div_below}
use Rattle.std.proofs.lemmas.Grind.{flat_map-append}
use Rattle.std.proofs.lemmas.List.{append-nil, get_or-append_right, get_or-map, get_or_append_left, length-map, map-append, map_push}
use Rattle.std.proofs.lemmas.List.Concat.{flat_map-cons}
use Rattle.std.proofs.lemmas.List.FromFn.{get_or-map-range_with_len, length-map-range_with_len, map-range_with_len_more}
use Rattle.std.proofs.lemmas.List.Sums.{fold-append}
use Rattle.std.proofs.lemmas.Option.{get_or_from_slice_get, slice_get_within, unwrap_or-slice_get}
use Rattle.ae_word.specs.AtomTree.{unsigned_word}
use Rattle.ae_sttype.specs.declared.st_type.Slot.{Slot}
use Rattle.ae_sttype.specs.declared.st_type.StType.{StType}
use Rattle.ae_sttype.specs.StTree.{StTree, atom, sseq, tseq, st_tree, time, lanes, st_atoms, element_words}
use Rattle.ae_sttype.specs.Slots.{copies, moved, slots}
use Rattle.ae_sttype.specs.Size.{IsInSize}
use Rattle.ae_sttype.specs.Moves.{OriginTree, SourceTree, TripTree, constant, fixed, from_input, greatest, latency_of_trips, lead_from, place, slot_number, source_clock, source_of, trip_number, trips_of}
use Rattle.ae_sttype.proofs.Bounds.{element_words_pos}
use Rattle.ae_sttype.proofs.Places.{length-slots, slot_at, slot_below}
use Rattle.ae_moves.proofs.Lists.{take_push}
use Rattle.ae_rewrite.specs.StProgramTree.{st_trees}
use Rattle.ae_trace.proofs.Natural.{map-map}
use Rattle.ae_flow.specs.Flow.{layout_words}
use Rattle.ae_fuse.specs.Labels.{labelled_origin, layout_origin}
use Rattle.ae_fuse.specs.Clocks.{clock_copies, element_clocks, label_clocks, lead_of, spread, word_clocks}
use Rattle.ae_fuse.proofs.NumberSteps.{origin-behind, origin-here, trees-more}
use Rattle.ae_moves.proofs.Held.{range_more as range-push}

-- ---- the clocks of elements

copied-clocks : (n c l : ℕ) (ws : List Slot) → map (λ (w : Slot). w.clock) (copies n c l ws) ≡ clock_copies n c (map (λ (w : Slot). w.clock) ws)
copied-clocks zero c l ws = refl
copied-clocks (suc q) c l ws =
    map-append (λ (w : Slot). w.clock) (copies q c l ws) (map (moved (q * c) (q * l)) ws)
    ∙ (λ i. copied-clocks q c l ws i ++ (map-map (λ (w : Slot). w.clock) (moved (q * c) (q * l)) ws ∙
    sym (map-map (λ k. q * c + k) (λ (w : Slot). w.clock) ws)) i)

pub tseq-clocks : (n i : ℕ) (t : StTree) → element_clocks (tseq n i t) ≡ clock_copies n (time t) (element_clocks t)
tseq-clocks n i t = copied-clocks n (time t) 0 (slots t)

pub sseq-clocks : (n : ℕ) (t : StTree) → element_clocks (sseq n t) ≡ clock_copies n 0 (element_clocks t)
sseq-clocks n t = copied-clocks n 0 (lanes t) (slots t)

pub length-element_clocks : (s : StTree) → length (element_clocks s) ≡ st_atoms s
length-element_clocks s = length-map (slots s) (λ (w : Slot). w.clock) ∙ length-slots s

element-clock : (s : StTree) (e : ℕ) → e < st_atoms s → get_or (element_clocks s) e 0 ≡ (slot_number s e).clock
element-clock s e low = get_or-map (λ (w : Slot). w.clock) (slots s) e (slot_at 0 0) 0 (omega (arith, low, length-slots s))
    ∙ ap (λ (w : Slot). w.clock) (sym (unwrap_or-slice_get (slots s) e (slot_at 0 0)))

pub clock-early : (s : StTree) → IsInSize s → (k c : ℕ) → slice_get (element_clocks s) k ≡ Some c → c < 4096
clock-early s size k c found =
    let low : k < st_atoms s = omega (arith, slice_get_within (element_clocks s) k c found, length-element_clocks s) in
    let is : get_or (element_clocks s) k 0 ≡ c = get_or_from_slice_get (element_clocks s) k c 0 found in
    let b : (slot_number s k).clock < time s = (slot_below s size.lengths k low).0 in
    omega (arith, b, size.in_time, is, element-clock s k low)

-- ---- tables, one step at a time

pub later-more : (ks old now : List ℕ) (by j k : ℕ) → slice_get ks j ≡ Some k → now ≡ old ++ map (λ k. by + k) (take j ks) → now ++ (by + k) ∷ [] ≡ old
    ++ map (λ k. by + k) (take (j + 1) ks)
later-more ks old now by j k found was =
    (λ i. was i ++ (by + k) ∷ [])
    ∙ append_assoc old (map (λ k. by + k) (take j ks)) ((by + k) ∷ [])
    ∙ ap (λ xs. old ++ xs) (sym (map_push (λ k. by + k) (take j ks) k) ∙ ap (map (λ k. by + k)) (sym (take_push ks j k found)))

pub copies-more : (q c : ℕ) (ks old now : List ℕ) → old ≡ clock_copies q c ks → now ≡ old ++ map (λ k. q * c + k) ks → now ≡ clock_copies (q + 1) c ks
copies-more q c ks old now was is =
    let e : suc q ≡ q + 1 = omega arith in
    is ∙ ap (λ xs. xs ++ map (λ k. q * c + k) ks) was ∙ ap (λ n. clock_copies n c ks) e

pub spread-more : (f : ℕ → ℕ) (old now : List ℕ) (o x : ℕ) → now ≡ old ++ map f (range_with_len 0 o) → x ≡ f o → now ++ x ∷ [] ≡ old
    ++ map f (range_with_len 0 (o + 1))
spread-more f old now o x was is =
    (λ i. was i ++ is i ∷ []) ∙ append_assoc old (map f (range_with_len 0 o)) (f o ∷ []) ∙
    ap (λ xs. old ++ xs) (sym (map-range_with_len_more f 0 o o (omega arith)))

pub words-next : (ls : List StType) (k : ℕ) (t : StType) (old now : List ℕ) → slice_get ls k ≡ Some t → old ≡ label_clocks (st_trees (take k ls)) → now ≡ old
    ++ word_clocks (st_tree t) → now ≡ label_clocks (st_trees (take (k + 1) ls))
words-next ls k t old now found was is =
    let s : StTree = st_tree t in
    let ss : List StTree = st_trees (take k ls) in
    is ∙ ap (λ xs. xs ++ word_clocks s) was
    ∙ ap (λ xs. 0 ∷ xs) (ap (λ xs. flat_map word_clocks ss ++ xs) (sym (flat_map-cons word_clocks s [] ∙ append-nil (word_clocks s))) ∙
    sym (flat_map-append word_clocks ss (s ∷ [])))
    ∙ ap label_clocks (sym (trees-more ls k t found))

-- ---- the clock of the word of a number

source-is : (ins : List StTree) (i e j : ℕ) (s : StTree) → slice_get ins i ≡ Some s → source_clock (source_of ins (from_input i e j)) ≡ (slot_number s e).clock
source-is ins i e j s found = ap (λ (t : StTree). (slot_number t e).clock) (ap (λ o. unwrap_or o (sseq 0 (atom (unsigned_word 1)))) found)

spread-at : (w : ℕ) (ks : List ℕ) (n : ℕ) → n < length ks * w → get_or (spread w ks) n 0 ≡ get_or ks (n / w) 0
spread-at w ks n low = get_or-map-range_with_len (λ o. get_or ks (o / w) 0) 0 (length ks * w) n n 0 low (omega arith)

length-words : (s : StTree) → length (word_clocks s) ≡ layout_words s
length-words s =
    length-map-range_with_len (λ o. get_or (element_clocks s) (o / element_words s) 0) 0 (length (element_clocks s) * element_words s) ∙
    ap (λ n. n * element_words s) (length-element_clocks s)

origin-clock : (ins : List StTree) (i : ℕ) (ss : List StTree) (n : ℕ) → ((k : ℕ) (s : StTree) → slice_get ss k ≡ Some s → slice_get ins (i + k) ≡ Some s)
    → get_or (flat_map word_clocks ss) n 0 ≡ source_clock (source_of ins (layout_origin i ss n))
origin-clock ins i [] n h = refl
origin-clock ins i (s ∷ ss) n h =
    let clock : OriginTree → ℕ = λ x. source_clock (source_of ins x) in
    ap (λ xs. get_or xs n 0) (flat_map-cons word_clocks s ss)
    ∙ elim (cases_lt n (layout_words s)) [
      | inl lt ↦
          let z : i + 0 ≡ i = omega arith in
          let here : slice_get ins i ≡ Some s = ap (slice_get ins) (sym z) ∙ h 0 s refl in
          let low : n < length (element_clocks s) * element_words s = omega (arith, lt, ap (λ m. m * element_words s) (length-element_clocks s)) in
          get_or_append_left (word_clocks s) (flat_map word_clocks ss) 0 n (omega (arith, lt, length-words s))
          ∙ spread-at (element_words s) (element_clocks s) n low
          ∙ element-clock s (n / element_words s) (div_below n (element_words s) (st_atoms s) (element_words_pos s) lt)
          ∙ sym (ap clock (origin-here i s ss n lt) ∙ source-is ins i (n / element_words s) (n % element_words s) s here)
      | inr ge ↦
          get_or-append_right (word_clocks s) (flat_map word_clocks ss) (layout_words s) n 0 (length-words s) ge
          ∙ origin-clock ins (i + 1) ss (n - layout_words s) (λ k t f. (let e : i + 1 + k ≡ i + suc k = omega arith in ap (slice_get ins) e ∙ h (suc k) t f))
          ∙ sym (ap clock (origin-behind i s ss n ge))
    ]

label-clock : (ss : List StTree) (label : ℕ) → get_or (label_clocks ss) label 0 ≡ source_clock (source_of ss (labelled_origin ss label))
label-clock ss zero = refl
label-clock ss (suc n) = origin-clock ss 0 ss n (λ k s f. (let e : 0 + k ≡ k = omega arith in ap (slice_get ss) e ∙ f))

-- ---- arrivals

lead-is : (c : ℕ) (s : SourceTree) → lead_from c s ≡ source_clock s - c
lead-is c (place k q) = refl
lead-is c (constant w) = omega arith

abbrev trip_lead : TripTree → ℕ
trip_lead t = lead_from t.clock t.source

lead-at : (ins : List StTree) (out : StTree) (labels : List ℕ) (o : ℕ) → o < length labels → o < layout_words out
    → lead_of (label_clocks ins) labels (element_clocks out) (element_words out) o ≡ trip_lead (trip_number ins out (map (labelled_origin ins) labels) o)
lead-at ins out labels o low below =
    let w : ℕ = element_words out in
    let c : ℕ = (slot_number out (o / w)).clock in
    let at : get_or (element_clocks out) (o / w) 0 ≡ c = element-clock out (o / w) (div_below o w (st_atoms out) (element_words_pos out) below) in
    (λ i. label-clock ins (get_or labels o 0) i - at i)
    ∙ ap (λ x. source_clock (source_of ins x) - c) (sym (unwrap_or-slice_get (map (labelled_origin ins) labels) o (fixed 0)
    ∙ get_or-map (labelled_origin ins) labels o 0 (fixed 0) low))
    ∙ sym (lead-is c (source_of ins (unwrap_or (slice_get (map (labelled_origin ins) labels) o) (fixed 0))))

greatest-same : (f : ℕ → ℕ) (g : TripTree → ℕ) (t : ℕ → TripTree) (a n most : ℕ) → ((o : ℕ) → o < a + n → f o ≡ g (t o))
    → fold (λ m x. max m (f x)) most (range_with_len a n) ≡ fold (λ m (x : TripTree). max m (g x)) most (map t (range_with_len a n))
greatest-same f g t a zero most each = refl
greatest-same f g t a (suc n) most each =
    ap (λ x. fold (λ m x. max m (f x)) (max most x) (range_with_len (a + 1) n)) (each a (omega arith))
    ∙ greatest-same f g t (a + 1) n (max most (g (t a))) (λ o low. each o (omega (arith, low)))

pub arrival-is : (ins : List StTree) (out : StTree) (sources labels elements : List ℕ) (words : ℕ) → sources ≡ label_clocks ins → elements ≡ element_clocks out
    → words ≡ element_words out → length labels ≡ layout_words out
    → greatest (lead_of sources labels elements words) (range_with_len 0 (length labels)) ≡ latency_of_trips
    (trips_of ins out (map (labelled_origin ins) labels))
arrival-is ins out sources labels elements words from at wide long =
    (λ i. greatest (lead_of (from i) labels (at i) (wide i)) (range_with_len 0 (long i)))
    ∙ greatest-same (lead_of (label_clocks ins) labels (element_clocks out) (element_words out)) trip_lead
    (trip_number ins out (map (labelled_origin ins) labels)) 0 (layout_words out) 0
    (λ o low. lead-at ins out labels o (omega (arith, low, long)) (omega (arith, low)))

pub greatest-more : (f : ℕ → ℕ) (n x most now : ℕ) → most ≡ greatest f (range_with_len 0 n) → x ≡ f n → now ≡ max most x
    → now ≡ greatest f (range_with_len 0 (n + 1))
greatest-more f n x most now was is new =
    let z : 0 + n ≡ n = omega arith in
    new ∙ (λ i. max (was i) (is i))
    ∙ sym (ap (greatest f) (range-push 0 n ∙ ap (λ y. range_with_len 0 n ++ y ∷ []) z) ∙ fold-append (λ m y. max m (f y)) 0 (range_with_len 0 n) (n ∷ []))
