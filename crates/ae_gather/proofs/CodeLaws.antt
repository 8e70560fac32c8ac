-- What the code finds in layouts and origins.
use Rattle.std.proofs.Common.{ℕ, suc, ◌≡◌, ◌+◌, ◌*◌, ◌%◌, ◌<◌, ◌≤◌, inl, inr, false, List, ◌∷◌, ◌++◌, [], length, map, sum_by, Option, Some, None, slice_get, get_or, option_map, arith, ap, refl, sym, ◌∙◌}
use Rattle.std.proofs.lemmas.List.{take_all}
use Rattle.std.proofs.lemmas.List.Sums.{sum_by-cons}
use Rattle.std.proofs.lemmas.Option.{slice_get-get_or}
use Rattle.ae_sttype.specs.StTree.{StTree, lanes, time, element_atom, element_words}
use Rattle.ae_sttype.specs.Size.{IsInSize}
use Rattle.ae_sttype.specs.Moves.{delay_of, held_count, runs_of, steps_of, columns_of, first_column}
use Rattle.ae_sttype.proofs.Bounds.{lanes_pos}
use Rattle.ae_word.specs.AtomTree.{AtomTree, WordKind, atom_kinds}
use Rattle.ae_word.proofs.Sizes.{length-atom_kinds}
use Rattle.ae_netlist.specs.declared.cell.NetId.{NetId}
use Rattle.ae_netlist.specs.declared.cell.SizedCell.{SizedCell}
use Rattle.ae_netlist.specs.Circuit.{Circuit}
use Rattle.ae_netlist.proofs.Gets.{get_push_cases}
use Rattle.ae_ops.specs.Blocks.{stream_of, AreBundles, KeepsLaw}
use Rattle.ae_columns.specs.Plans.{AreUsed, AreWithin}
use Rattle.ae_columns.specs.Laws.{MakesTrips}
use Rattle.ae_gather.specs.Joins.{AreJoined}
use Rattle.ae_gather.proofs.GatherLaw.{bundles_long, firsts_same, gather_law}
use Rattle.ae_moves.specs.declared.trip.Trip.{Trip}
use Rattle.ae_moves.specs.Rings.{mems_of, registers_of}
use Rattle.ae_moves.specs.Trees.{trip_tree}
use Rattle.ae_moves.specs.Origins.{AllInSize, IsMove, Move, move_latency, move_trips, width_at}
use Rattle.ae_columns.specs.Counts.{Counted}
use Rattle.ae_gather.specs.Gathers.{AreWidths, gather_part, move_registers, move_tests}
use Rattle.ae_moves.proofs.Words.{columns_small, words_pos}
use Rattle.ae_gather.proofs.Typed.{used, within}
use Rattle.ae_sttype.proofs.Places.{row_below as in_row}

-- one width more
pub widths_more : (s : StTree) (widths : List ℕ) (q width : ℕ) → length widths ≡ q → AreWidths s widths → width_at s (q % element_words s) ≡ Some width
    → AreWidths s (widths ++ width ∷ [])
widths_more s widths q width long h wide = λ p w f. elim (get_push_cases widths width p w f) [
  | inl v ↦ h p w v.0
  | inr v ↦ (let at : p ≡ q = v.0 ∙ long in rw (at, ← v.1) wide)
]

-- ---- whether a move is one

pub no_width : (s : StTree) (j : ℕ) (a : AtomTree) (o : Option ℕ) → a ≡ element_atom s
    → o ≡ option_map (λ (k : WordKind). k.width) (slice_get (atom_kinds a) j) → o ≡ None → j < element_words s → ⊥
no_width s j a o ea eo none l =
    let d : WordKind = record { signed = false; width = 0 } in
    let f : slice_get (atom_kinds (element_atom s)) j ≡ Some (get_or (atom_kinds (element_atom s)) j d) = slice_get-get_or (atom_kinds (element_atom s)) j d
    (omega (arith, length-atom_kinds (element_atom s))) in
    let e : o ≡ option_map (λ (k : WordKind). k.width) (slice_get (atom_kinds (element_atom s)) j) = rw ea at eo in
    let g : o ≡ Some (get_or (atom_kinds (element_atom s)) j d).width = rw f at e in
    cc

-- ---- what a gather builds, over the lists that the code makes

pub firsts_at : (cells : List SizedCell) (ins : List StTree) (bundles : List (List NetId)) (nets : List NetId) (firsts : List ℕ)
    → AreBundles cells (map stream_of ins) bundles → AreJoined bundles nets firsts
    → (i : ℕ) → i < length ins → slice_get firsts i ≡ Some (first_column ins i)
firsts_at cells ins bundles nets firsts h joined i l =
    let long : length bundles ≡ length ins = bundles_long cells ins bundles h in
    let f : slice_get firsts i ≡ Some (get_or firsts i 0) = slice_get-get_or firsts i 0 (omega (arith, joined.begins)) in
    f ∙ ap Some (joined.starts i (get_or firsts i 0) f ∙ firsts_same cells ins bundles h i)

pub nets_long : (cells : List SizedCell) (ins : List StTree) (bundles : List (List NetId)) (nets : List NetId) (firsts : List ℕ)
    → AreBundles cells (map stream_of ins) bundles → AreJoined bundles nets firsts → length nets ≡ sum_by columns_of ins
nets_long cells ins bundles nets firsts h joined =
    let long : length ins ≤ length bundles = omega (arith, bundles_long cells ins bundles h) in
    joined.long ∙ (firsts_same cells ins bundles h (length bundles) ∙ ap (sum_by columns_of) (take_all (length bundles) ins long))

columns_few : (ins : List StTree) → ((i : ℕ) (s : StTree) → slice_get ins i ≡ Some s → IsInSize s) → sum_by columns_of ins ≤ 16384 * length ins
columns_few [] sized = omega arith
columns_few (s ∷ ss) sized = omega (arith, sum_by-cons columns_of s ss, columns_small s (sized 0 s refl), columns_few ss (λ i t e. sized (suc i) t e))

pub nets_few : (cells : List SizedCell) (ins : List StTree) (bundles : List (List NetId)) (clocks : ℕ) → AreBundles cells (map stream_of ins) bundles
    → AllInSize ins clocks → length ins ≤ 65536 → sum_by length bundles < 2147483648
nets_few cells ins bundles clocks h sized few =
    let long : length bundles ≡ length ins = bundles_long cells ins bundles h in
    let all : sum_by length bundles ≡ sum_by columns_of ins =
    sym (ap (sum_by length) (take_all (length bundles) bundles (omega arith))) ∙ firsts_same cells ins bundles h (length bundles) ∙
    ap (sum_by columns_of) (take_all (length bundles) ins (omega (arith, long))) in
    omega (arith, all, columns_few ins (λ i s e. (sized i s e).0))

pub columns_pos : (s : StTree) → IsInSize s → 1 ≤ columns_of s
columns_pos s h = omega (arith, in_row 0 0 (lanes s) (element_words s) (lanes_pos s h.lengths) (words_pos s))

pub within_as : (m : Move) (trips : List Trip) (p d a b : ℕ) → p ≡ time m.out → d ≡ move_latency m → a ≡ sum_by columns_of m.ins → b ≡ columns_of m.out
    → IsMove m → map trip_tree trips ≡ move_trips m → AreWithin p d a b trips
within_as m trips p d a b ep ed ea eb h e = rw (ep, ed, ea, eb) (within m trips h e)

pub used_as : (m : Move) (trips : List Trip) (b : ℕ) → b ≡ columns_of m.out → IsMove m → map trip_tree trips ≡ move_trips m → AreUsed b trips
used_as m trips b eb h e = rw eb (used m trips h.out e)

pub cells_as : (m : Move) (trips : List Trip) (new old d a b : ℕ) → d ≡ move_latency m → a ≡ sum_by columns_of m.ins → b ≡ columns_of m.out
    → map trip_tree trips ≡ move_trips m
    → new ≤ old + 16 * (d + delay_of d a (map trip_tree trips) + runs_of d b (map trip_tree trips)) → new ≤ old + (gather_part m).most_cells
cells_as m trips new old d a b ed ea eb e h = rw (e, ed, ea, eb) at h

pub mems_as : (m : Move) (trips : List Trip) (new old p d a : ℕ) → p ≡ time m.out → d ≡ move_latency m → a ≡ sum_by columns_of m.ins
    → map trip_tree trips ≡ move_trips m → new ≤ old + mems_of p d a (map trip_tree trips) → new ≤ old + (gather_part m).most_memories
mems_as m trips new old p d a ep ed ea e h = rw (e, ep, ed, ea) at h

pub counted_as : (m : Move) (trips : List Trip) (old new : Circuit) (before after p d a b : ℕ) → p ≡ time m.out → d ≡ move_latency m
    → a ≡ sum_by columns_of m.ins → b ≡ columns_of m.out → map trip_tree trips ≡ move_trips m
    → Counted old new before after (registers_of p d a (map trip_tree trips)) (steps_of p d b (map trip_tree trips) + held_count p d a (map trip_tree trips))
    → Counted old new before after (move_registers m) (move_tests m)
counted_as m trips old new before after p d a b ep ed ea eb e h = rw (e, ep, ed, ea, eb) at h

pub law_as : (old cells : List SizedCell) (rst arrival : ℕ) (m : Move) (bundles : List (List NetId)) (nets : List NetId) (firsts : List ℕ) (trips : List Trip)
    (out : List NetId) (p d b : ℕ) → p ≡ time m.out → d ≡ move_latency m → length out ≡ b → b ≡ columns_of m.out
    → IsMove m → AreBundles old (map stream_of m.ins) bundles → AreJoined bundles nets firsts → map trip_tree trips ≡ move_trips m
    → MakesTrips cells rst p d arrival nets out trips → KeepsLaw cells rst arrival (gather_part m) bundles out
law_as old cells rst arrival m bundles nets firsts trips out p d b ep ed lo lb h made joined e makes =
    gather_law old cells rst arrival m bundles nets firsts trips out h made joined e (lo ∙ lb) (rw (ep, ed) at makes)
