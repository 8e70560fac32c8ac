-- A gather that makes every trip keeps the law of blocks of its move.
use Rattle.std.proofs.Common.{ℕ, zero, suc, ◌≡◌, ◌+◌, ◌*◌, ◌/◌, ◌%◌, ◌<◌, ◌≤◌, ◌^◌, false, List, ◌∷◌, ◌++◌, [], length, map, sum_by, take, Some, slice_get, get_or, option_map, arith, refl, sym, ap, ◌∙◌, subst}
use Rattle.std.proofs.Math.Nat.{add-mul}
use Rattle.std.proofs.lemmas.List.{length-map}
use Rattle.std.proofs.lemmas.List.Sums.{sum_by-cons}
use Rattle.std.proofs.lemmas.Nat.{div-add-mod', div-mul-add, div_below, mod-mul-add, mod_below}
use Rattle.std.proofs.lemmas.Option.{slice_get_within, slice_get-get_or, get_or_from_slice_get, unwrap_or-slice_get}
use Rattle.std.specs.Prelude.{unwrap_or}
use Rattle.ae_word.specs.AtomTree.{WordKind, atom_kinds, unsigned_word}
use Rattle.ae_word.proofs.Ranges.{width_there}
use Rattle.ae_word.proofs.Sizes.{length-atom_kinds}
use Rattle.ae_seqtype.specs.SeqTree.{repeated}
use Rattle.ae_seqtype.proofs.Sizes.{length-repeated}
use Rattle.ae_sttype.specs.declared.st_type.Slot.{Slot}
use Rattle.ae_sttype.specs.StTree.{StTree, atom, sseq, time, lanes, st_atoms, element_atom, element_words}
use Rattle.ae_sttype.specs.Slots.{slots}
use Rattle.ae_sttype.specs.Holds.{Holds}
use Rattle.ae_sttype.specs.Size.{IsInSize}
use Rattle.ae_sttype.specs.Moves.{OriginTree, SourceTree, TripTree, place, constant, from_input, fixed, columns_of, column_number, first_column, source_of}
use Rattle.ae_sttype.proofs.Bounds.{sized_atom}
use Rattle.ae_sttype.proofs.Places.{length-slots, slot_below, slot_of, stands_from_get, row_below as in_row}
use Rattle.ae_netlist.specs.declared.cell.NetId.{NetId}
use Rattle.ae_netlist.specs.declared.cell.SizedCell.{SizedCell}
use Rattle.ae_netlist.specs.Circuit.{IsNet}
use Rattle.ae_netlist.specs.Runs.{Clock, word_at}
use Rattle.ae_netlist.proofs.Gets.{get_left}
use Rattle.ae_ops.specs.Waves.{AreNets, Wave, wave_of}
use Rattle.ae_ops.specs.Blocks.{AllHold, AreBundles, KeepsLaw, stream_of, stream_widths}
use Rattle.ae_moves.specs.declared.trip.Source.{Source}
use Rattle.ae_moves.specs.declared.trip.Source.TheVariants.{Place, Fixed}
use Rattle.ae_moves.specs.declared.trip.Trip.{Trip}
use Rattle.ae_columns.specs.Columns.{net_of}
use Rattle.ae_columns.specs.Laws.{AreFitting, FitsColumn, MakesTrips, sourced}
use Rattle.ae_moves.specs.Trees.{source_tree, trip_tree}
use Rattle.ae_moves.specs.Origins.{HasOrigin, IsMove, Move, move_latency, move_trips, width_at}
use Rattle.ae_gather.specs.Gathers.{AreWidths, gather_part, origin_word}
use Rattle.ae_gather.specs.Joins.{AreJoined}
use Rattle.ae_gather.proofs.OneList.{get_right}
use Rattle.ae_moves.proofs.Lists.{get_mapped}
use Rattle.ae_moves.proofs.Words.{column_below, origin_at, sizes_of, trip_at, trip_there, word_below, words_pos}

-- ---- widths by column

map_get : {X Y : Type 0} (f : X → Y) (xs : List X) (i : ℕ) → slice_get (map f xs) i ≡ option_map f (slice_get xs i)
map_get f [] i = refl
map_get f (x ∷ xs) zero = refl
map_get f (x ∷ xs) (suc i) = map_get f xs i

get_within_left : {X : Type 0} (xs ys : List X) (j : ℕ) (d : X) → j < length xs → slice_get (xs ++ ys) j ≡ slice_get xs j
get_within_left xs ys j d l = let a : slice_get xs j ≡ Some (get_or xs j d) = slice_get-get_or xs j d l in get_left xs ys j (get_or xs j d) a ∙ sym a

repeated_at : {X : Type 0} (d : X) (n : ℕ) (xs : List X) (l j : ℕ) → l < n → j < length xs → slice_get (repeated n xs) (l * length xs + j) ≡ slice_get xs j
repeated_at d zero xs l j p q = absurd (omega arith)
repeated_at d (suc n) xs zero j p q = let e : 0 * length xs + j ≡ j = omega arith in rw e (get_within_left xs (repeated n xs) j d q)
repeated_at d (suc n) xs (suc l) j p q =
    let e : suc l * length xs + j ≡ length xs + (l * length xs + j) = omega arith in
    rw e (get_right xs (repeated n xs) (l * length xs + j) ∙ repeated_at d n xs l j (omega arith) q)

abbrev widths_of : StTree → List ℕ
widths_of s = map (λ (k : WordKind). k.width) (atom_kinds (element_atom s))

pub length_widths : (s : StTree) → length (widths_of s) ≡ element_words s
length_widths s = length-map (atom_kinds (element_atom s)) (λ (k : WordKind). k.width) ∙ length-atom_kinds (element_atom s)

pub widths_at : (s : StTree) (l j : ℕ) → l < lanes s → j < element_words s → slice_get (stream_widths (stream_of s)) (l * element_words s + j) ≡ width_at s j
widths_at s l j p q =
    let e : length (widths_of s) ≡ element_words s = length_widths s in
    rw e at (repeated_at 0 (lanes s) (widths_of s) l j p (omega arith)) ∙ map_get (λ (k : WordKind). k.width) (atom_kinds (element_atom s)) j

pub length_stream : (s : StTree) → length (stream_widths (stream_of s)) ≡ columns_of s
length_stream s = length-repeated (lanes s) (widths_of s) ∙ ap (λ n. lanes s * n) (length_widths s)

-- ---- nets of bundles

pub bundle_columns : (cells : List SizedCell) (ins : List StTree) (bundles : List (List NetId)) → AreBundles cells (map stream_of ins) bundles
    → (i : ℕ) (s : StTree) (nets : List NetId)
    → slice_get ins i ≡ Some s → slice_get bundles i ≡ Some nets → length nets ≡ columns_of s
bundle_columns cells ins bundles h i s nets f g = (h.each i (stream_of s) nets (get_mapped stream_of ins i s f) g).long ∙ length_stream s

sums_same : (ins : List StTree) (bundles : List (List NetId)) → length bundles ≡ length ins
    → ((i : ℕ) (s : StTree) (nets : List NetId) → slice_get ins i ≡ Some s → slice_get bundles i ≡ Some nets → length nets ≡ columns_of s)
    → (i : ℕ) → sum_by length (take i bundles) ≡ sum_by columns_of (take i ins)
sums_same ins bundles long h zero = refl
sums_same [] [] long h (suc i) = refl
sums_same [] (b ∷ bundles) long h (suc i) = absurd (omega (arith, long))
sums_same (s ∷ ins) [] long h (suc i) = absurd (omega (arith, long))
sums_same (s ∷ ins) (b ∷ bundles) long h (suc i) =
    let here : length b ≡ columns_of s = h 0 s b refl refl in
    let rest : sum_by length (take i bundles) ≡ sum_by columns_of (take i ins) = sums_same ins bundles (omega (arith, long))
    (λ k t nets f g. h (suc k) t nets f g) i in
    omega (arith, sum_by-cons length b (take i bundles), sum_by-cons columns_of s (take i ins))

pub bundles_long : (cells : List SizedCell) (ins : List StTree) (bundles : List (List NetId)) → AreBundles cells (map stream_of ins) bundles
    → length bundles ≡ length ins
bundles_long cells ins bundles h = h.long ∙ length-map ins stream_of

pub firsts_same : (cells : List SizedCell) (ins : List StTree) (bundles : List (List NetId)) → AreBundles cells (map stream_of ins) bundles → (i : ℕ)
    → sum_by length (take i bundles) ≡ first_column ins i
firsts_same cells ins bundles h i = sums_same ins bundles (bundles_long cells ins bundles h) (bundle_columns cells ins bundles h) i

-- the net of a word of an element of an input
pub record HasNet (cells : List SizedCell) (bundles : List (List NetId)) (flat : List NetId) (i column first width : ℕ) : Type 0 where
  pub nets : List NetId
  pub net : NetId
  pub there : slice_get bundles i ≡ Some nets
  pub found : slice_get nets column ≡ Some net
  pub is_net : IsNet cells net.0 width
  pub same : net_of flat (first + column) ≡ net.0

pub net_at : (cells : List SizedCell) (ins : List StTree) (bundles : List (List NetId)) (flat : List NetId) (firsts : List ℕ) (i e j width : ℕ) (s : StTree)
    → AreBundles cells (map stream_of ins) bundles → AreJoined bundles flat firsts
    → IsInSize s → slice_get ins i ≡ Some s → e < st_atoms s → width_at s j ≡ Some width
    → HasNet cells bundles flat i (column_number s e j) (first_column ins i) width
net_at cells ins bundles flat firsts i e j width s h joined size f le wide =
    let none : NetId = record { 0 = 0 } in
    let c : ℕ = column_number s e j in
    let l : i < length ins = slice_get_within ins i s f in
    let long : length bundles ≡ length ins = bundles_long cells ins bundles h in
    let nets : List NetId = get_or bundles i [] in
    let there : slice_get bundles i ≡ Some nets = slice_get-get_or bundles i [] (omega arith) in
    let word : j < element_words s = word_below s j width wide in
    let inside : c < columns_of s = column_below s size e j le word in
    let count : length nets ≡ columns_of s = bundle_columns cells ins bundles h i s nets f there in
    let net : NetId = get_or nets c none in
    let found : slice_get nets c ≡ Some net = slice_get-get_or nets c none (omega arith) in
    let at : slice_get (stream_widths (stream_of s)) c ≡ Some width = widths_at s (slot_of s e).lane j (slot_below s size.lengths e le).1 word ∙ wide in
    let place : slice_get flat (first_column ins i + c) ≡ Some net = rw (firsts_same cells ins bundles h i) at
    (joined.each i c nets net (omega arith) there found) in
    record {
      nets = nets;
      net = net;
      there = there;
      found = found;
      is_net = (h.each i (stream_of s) nets (get_mapped stream_of ins i s f) there).each c width net at found;
      same = ap (λ (x : NetId). x.0) (get_or_from_slice_get flat (first_column ins i + c) net none place);
    }

-- each joined net is a net
pub flat_nets : (cells : List SizedCell) (ins : List StTree) (bundles : List (List NetId)) (flat : List NetId) (firsts : List ℕ)
    → AreBundles cells (map stream_of ins) bundles → AreJoined bundles flat firsts
    → (q : ℕ) → q < length flat → (w : ℕ) × IsNet cells (net_of flat q) w
flat_nets cells ins bundles flat firsts h joined q l =
    let none : NetId = record { 0 = 0 } in
    let from = joined.from q (get_or flat q none) (slice_get-get_or flat q none l) in
    let lb : from.bundle < length bundles = slice_get_within bundles from.bundle from.nets from.there in
    let long : length bundles ≡ length ins = bundles_long cells ins bundles h in
    let blank : StTree = sseq 0 (atom (unsigned_word 1)) in
    let s : StTree = get_or ins from.bundle blank in
    let f : slice_get ins from.bundle ≡ Some s = slice_get-get_or ins from.bundle blank (omega arith) in
    let nets = h.each from.bundle (stream_of s) from.nets (get_mapped stream_of ins from.bundle s f) from.there in
    let lp : from.place < length from.nets = slice_get_within from.nets from.place (get_or flat q none) from.found in
    let widths : List ℕ = stream_widths (stream_of s) in
    let wide : slice_get widths from.place ≡ Some (get_or widths from.place 0) = slice_get-get_or widths from.place 0 (omega (arith, nets.long)) in
    (get_or widths from.place 0, nets.each from.place (get_or widths from.place 0) (get_or flat q none) wide from.found)

-- ---- widths of output columns

width_range : (s : StTree) (j width : ℕ) → IsInSize s → width_at s j ≡ Some width → (1 ≤ width) × (width ≤ 64)
width_range s j width size wide =
    let l : j < length (atom_kinds (element_atom s)) = omega (arith, word_below s j width wide, length-atom_kinds (element_atom s)) in
    let none : WordKind = record { signed = false; width = 0 } in
    let k : WordKind = get_or (atom_kinds (element_atom s)) j none in
    let f : slice_get (atom_kinds (element_atom s)) j ≡ Some k = slice_get-get_or (atom_kinds (element_atom s)) j none l in
    let e : Some k.width ≡ Some width = rw f at wide in
    let same : k.width ≡ width = cc in
    rw (← same) (width_there (element_atom s) j k (sized_atom s size.lengths) f)

abbrev FitsTree : List SizedCell → List NetId → ℕ → SourceTree → Type 0
FitsTree cells flat w (place k q) = IsNet cells (net_of flat q) w
FitsTree cells flat w (constant v) = v < 2 ^ w

fits_by : (cells : List SizedCell) (flat : List NetId) (w : ℕ) (x : Source) (tree : SourceTree) → source_tree x ≡ tree → FitsTree cells flat w tree
    → FitsColumn cells flat w x
fits_by cells flat w (Place k q) tree e h = subst (FitsTree cells flat w) (sym e) h
fits_by cells flat w (Fixed v) tree e h = subst (FitsTree cells flat w) (sym e) h

origin_fits : (cells : List SizedCell) (ins : List StTree) (bundles : List (List NetId)) (flat : List NetId) (firsts : List ℕ) (width : ℕ) (o : OriginTree)
    → AreBundles cells (map stream_of ins) bundles → AreJoined bundles flat firsts
    → ((i : ℕ) (s : StTree) → slice_get ins i ≡ Some s → IsInSize s) → HasOrigin ins width o → FitsTree cells flat width (source_of ins o)
origin_fits cells ins bundles flat firsts width (from_input i e j) h joined sizes o =
    let is : unwrap_or (slice_get ins i) (sseq 0 (atom (unsigned_word 1))) ≡ o.0 = ap (λ o. unwrap_or o (sseq 0 (atom (unsigned_word 1)))) o.1 in
    let n = net_at cells ins bundles flat firsts i e j width o.0 h joined (sizes i o.0 o.1) o.1 o.2 o.3 in
    rw is (rw n.same n.is_net)
origin_fits cells ins bundles flat firsts width (fixed w) h joined sizes o = o

pub fitting : (cells : List SizedCell) (m : Move) (bundles : List (List NetId)) (flat : List NetId) (firsts widths : List ℕ) (trips : List Trip) → IsMove m
    → AreBundles cells (map stream_of m.ins) bundles → AreJoined bundles flat firsts
    → map trip_tree trips ≡ move_trips m → AreWidths m.out widths → AreFitting cells flat widths trips
fitting cells m bundles flat firsts widths trips h made joined e wide = record {
  low = λ q w f. (width_range m.out (q % element_words m.out) w h.out (wide q w f)).0;
  high = λ q w f. (width_range m.out (q % element_words m.out) w h.out (wide q w f)).1;
  fits = λ n w t f g.
      let k : ℕ = element_words m.out in
      let x = trip_at m.ins m.out m.origins trips e n t f in
      let o = origin_at m n h x.0 in
      let column : t.column ≡ (slot_of m.out (n / k)).lane * k + n % k = ap (λ (v : TripTree). v.column) x.1 in
      let rest : t.column % k ≡ n % k = ap (λ v. v % k) column ∙ mod-mul-add (slot_of m.out (n / k)).lane k (n % k) (mod_below n k (words_pos m.out)) in
      let a : width_at m.out (n % k) ≡ Some w = rw rest at (wide t.column w g) in
      let b : width_at m.out (n % k) ≡ Some o.0 = o.1 in
      let same : o.0 ≡ w = cc in
      let fit = origin_fits cells m.ins bundles flat firsts o.0 (unwrap_or (slice_get m.origins n) (fixed 0)) made joined (sizes_of m h) o.2 in
      fits_by cells flat w t.source _ (ap (λ (v : TripTree). v.source) x.1) (rw same at fit);
}

-- ---- words

hold_at : (k : ℕ) (ins : List StTree) (ws : List Wave) (vs : List (List ℕ)) → AllHold k (map stream_of ins) ws vs → (i : ℕ) (s : StTree) (wave : Wave)
    → slice_get ins i ≡ Some s → slice_get ws i ≡ Some wave
    → Holds wave k (element_words s) (slots s) (get_or vs i [])
hold_at k [] ws vs h i s wave f g = cc
hold_at k (t ∷ ins) [] vs h i s wave f g = absurd h
hold_at k (t ∷ ins) (u ∷ ws) [] h i s wave f g = absurd h
hold_at k (t ∷ ins) (u ∷ ws) (v ∷ vs) h zero s wave f g =
    let a : t ≡ s = cc in
    let b : u ≡ wave = cc in
    let here : Holds u k (element_words t) (slots t) v = rw (length_widths t) at h.0 in
    subst (λ (x : StTree). Holds wave k (element_words x) (slots x) v) a (subst (λ (x : Wave). Holds x k (element_words t) (slots t) v) b here)
hold_at k (t ∷ ins) (u ∷ ws) (v ∷ vs) h (suc i) s wave f g = hold_at k ins ws vs h.1 i s wave f g

-- ---- the law

abbrev sourced_tree : List Clock → (start a : ℕ) → List NetId → SourceTree → ℕ
sourced_tree run start a flat (place k q) = word_at run (start + (a + k)) (net_of flat q)
sourced_tree run start a flat (constant w) = w

sourced_by : (run : List Clock) (start a : ℕ) (flat : List NetId) (x : Source) (tree : SourceTree) → source_tree x ≡ tree
    → sourced run start a flat x ≡ sourced_tree run start a flat tree
sourced_by run start a flat (Place k q) tree e = ap (sourced_tree run start a flat) e
sourced_by run start a flat (Fixed v) tree e = ap (sourced_tree run start a flat) e

wave_word : (run : List Clock) (start c q : ℕ) (nets : List NetId) (net : NetId) → slice_get nets q ≡ Some net
    → wave_of run start nets c q ≡ word_at run (start + c) net.0
unfolding wave_of
wave_word run start c q nets net f = rw f refl

sourced_is : (cells : List SizedCell) (run : List Clock) (start a : ℕ) (ins : List StTree) (bundles : List (List NetId)) (joined_nets : List NetId)
    (firsts : List ℕ) (vs : List (List ℕ)) (width : ℕ) (o : OriginTree)
    → AreBundles cells (map stream_of ins) bundles → AreJoined bundles joined_nets firsts → ((i : ℕ) (s : StTree) → slice_get ins i ≡ Some s → IsInSize s)
    → HasOrigin ins width o
    → AllHold a (map stream_of ins) (map (wave_of run start) bundles) vs → sourced_tree run start a joined_nets (source_of ins o) ≡ origin_word ins vs o
sourced_is cells run start a ins bundles joined_nets firsts vs width (from_input i e j) h joined sizes o given =
    let s : StTree = o.0 in
    let is : unwrap_or (slice_get ins i) (sseq 0 (atom (unsigned_word 1))) ≡ s = ap (λ o. unwrap_or o (sseq 0 (atom (unsigned_word 1)))) o.1 in
    let n = net_at cells ins bundles joined_nets firsts i e j width s h joined (sizes i s o.1) o.1 o.2 o.3 in
    let slot : Slot = slot_of s e in
    let there : slice_get (slots s) e ≡ Some slot = rw (unwrap_or-slice_get (slots s) e (record { clock = 0; lane = 0 }))
    (slice_get-get_or (slots s) e (record { clock = 0; lane = 0 }) (let l : e < st_atoms s = o.2 in omega (arith, length-slots s))) in
    let held = hold_at a ins (map (wave_of run start) bundles) vs given i s (wave_of run start n.nets) o.1
    (get_mapped (wave_of run start) bundles i n.nets n.there) e j slot there (word_below s j width o.3) in
    let at : wave_of run start n.nets (a + slot.clock) (column_number s e j) ≡ word_at run (start + (a + slot.clock)) n.net.0 = wave_word run start
    (a + slot.clock) (column_number s e j) n.nets n.net n.found in
    rw (is, get_or_from_slice_get ins i s (sseq 0 (atom (unsigned_word 1))) o.1) (ap (word_at run (start + (a + slot.clock))) n.same ∙
    (sym at ∙ (held ∙ unwrap_or-slice_get (get_or vs i []) (e * element_words s + j) 0)))
sourced_is cells run start a ins bundles joined_nets firsts vs width (fixed w) h joined sizes o given = refl

pub gather_law : (old cells : List SizedCell) (rst arrival : ℕ) (m : Move) (bundles : List (List NetId)) (joined_nets : List NetId) (firsts : List ℕ)
    (trips : List Trip) (out : List NetId) → IsMove m → AreBundles old (map stream_of m.ins) bundles
    → AreJoined bundles joined_nets firsts → map trip_tree trips ≡ move_trips m → length out ≡ columns_of m.out
    → MakesTrips cells rst (time m.out) (move_latency m) arrival joined_nets out trips → KeepsLaw cells rst arrival (gather_part m) bundles out
gather_law old cells rst arrival m bundles joined_nets firsts trips out h made joined e long makes = λ all x run r start reset. record {
  makes = λ b vs enough values given. rw (length_widths m.out) (λ i j slot found small.
      let w : ℕ = element_words m.out in
      let d : ℕ = move_latency m in
      let p : ℕ = time m.out in
      let st = stands_from_get m.out i slot.clock slot.lane found in
      let n : ℕ = i * w + j in
      let inside : n < st_atoms m.out * w = in_row i j (st_atoms m.out) w st.below small in
      let t = trip_there m.ins m.out m.origins trips e n inside in
      let y = trip_at m.ins m.out m.origins trips e n t.0 t.1 in
      let q_is : n / w ≡ i = div-mul-add i w j small in
      let r_is : n % w ≡ j = mod-mul-add i w j small in
      let place : slot_of m.out (n / w) ≡ slot = ap (slot_of m.out) q_is ∙ st.is in
      let clock : t.0.clock ≡ slot.clock = ap (λ (v : TripTree). v.clock) y.1 ∙ ap (λ (v : Slot). v.clock) place in
      let column : t.0.column ≡ slot.lane * w + j = ap (λ (v : TripTree). v.column) y.1 ∙
      (ap (λ (v : Slot). v.lane * w + n % w) place ∙ ap (λ v. slot.lane * w + v) r_is) in
      let early : slot.clock < p = (let b0 : (slot_of m.out i).clock < p = (slot_below m.out h.out.lengths i st.below).0 in rw st.is at b0) in
      let lane : slot.lane < lanes m.out = (let b1 : (slot_of m.out i).lane < lanes m.out = (slot_below m.out h.out.lengths i st.below).1 in rw st.is at b1) in
      let lc : slot.lane * w + j < columns_of m.out = in_row slot.lane j (lanes m.out) w lane small in
      let none : NetId = record { 0 = 0 } in
      let net : NetId = get_or out (slot.lane * w + j) none in
      let fo : slice_get out (slot.lane * w + j) ≡ Some net = slice_get-get_or out (slot.lane * w + j) none (omega arith) in
      let fc : slice_get out t.0.column ≡ Some net = rw column fo in
      let whole : (b + 1) * p ≡ b * p + 1 * p = add-mul b 1 p in
      let bound : start + (arrival + d + b * p + t.0.clock) < length run = rw clock (omega (arith, whole)) in
      let word = makes all x run r start reset b n t.0 net t.1 fc bound in
      let o = origin_at m n h inside in
      let origin : OriginTree = unwrap_or (slice_get m.origins n) (fixed 0) in
      let fn : slice_get m.origins n ≡ Some origin = rw (unwrap_or-slice_get m.origins n (fixed 0))
      (slice_get-get_or m.origins n (fixed 0) (omega (arith, h.count))) in
      let value : unwrap_or (slice_get (map (origin_word m.ins vs) m.origins) n) 0 ≡ origin_word m.ins vs origin =
      ap (λ o. unwrap_or o 0) (get_mapped (origin_word m.ins vs) m.origins n origin fn) in
      wave_word run start (arrival + d + b * p + slot.clock) (slot.lane * w + j) out net fo
      ∙ (rw clock at word
      ∙ (sourced_by run start (arrival + b * p) joined_nets t.0.source _ (ap (λ (v : TripTree). v.source) y.1)
      ∙ (sourced_is old run start (arrival + b * p) m.ins bundles joined_nets firsts vs o.0 origin made joined (sizes_of m h) o.2 given
      ∙ sym value))));
}

-- the output is a bundle of its widths
pub out_nets : (cells : List SizedCell) (m : Move) (widths : List ℕ) (out : List NetId) → IsMove m → length out ≡ length widths
    → length widths ≡ columns_of m.out → AreWidths m.out widths
    → ((q w : ℕ) (y : NetId) → slice_get widths q ≡ Some w → slice_get out q ≡ Some y → IsNet cells y.0 w) → AreNets cells (stream_widths (stream_of m.out)) out
out_nets cells m widths out h lo lw wide nets = record {
  long = lo ∙ (lw ∙ sym (length_stream m.out));
  each = λ q width y f g.
      let w : ℕ = element_words m.out in
      let l : q < lanes m.out * w = (let a : q < length out = slice_get_within out q y g in omega arith) in
      let lane : q / w < lanes m.out = div_below q w (lanes m.out) (words_pos m.out) l in
      let j : q % w < w = mod_below q w (words_pos m.out) in
      let at : slice_get (stream_widths (stream_of m.out)) q ≡ width_at m.out (q % w) = ap (slice_get (stream_widths (stream_of m.out)))
      (sym (div-add-mod' q w)) ∙ widths_at m.out (q / w) (q % w) lane j in
      let fw : slice_get widths q ≡ Some (get_or widths q 0) = slice_get-get_or widths q 0 (omega arith) in
      let has : width_at m.out (q % w) ≡ Some (get_or widths q 0) = wide q (get_or widths q 0) fw in
      let same : get_or widths q 0 ≡ width = cc in
      nets q width y (fw ∙ ap Some same) g;
}
