-- What stands in the rows of blocks, one behind the other: the words of each element in its slot, and the fill elsewhere.
use Rattle.std.proofs.Common.{ℕ, zero, suc, ◌≡◌, ◌+◌, ◌*◌, ◌/◌, ◌%◌, ◌<◌, List, [], length, map, take, get_or, Option, Some, None, slice_get, arith, refl, ap, sym, ◌∙◌}
use Rattle.std.specs.Option.{option_map}
use Rattle.std.specs.Prelude.{unwrap_or}
use Rattle.std.proofs.lemmas.List.{length-map}
use Rattle.std.proofs.lemmas.List.FromFn.{get_or-map-range_with_len, length-map-range_with_len}
use Rattle.std.proofs.lemmas.Nat.{div-add-mod', div-mul-add, mod-mul-add, mul-add-lt}
use Rattle.std.proofs.lemmas.Option.{slice_get-get_or, slice_get-map, slice_get_within, unwrap_or-slice_get}
use Rattle.ae_seqtype.specs.ValueTree.{ValueTree, end, flat}
use Rattle.ae_sttype.specs.declared.st_type.Slot.{Slot}
use Rattle.ae_sttype.specs.StTree.{StTree, time, lanes, element_atom, element_words}
use Rattle.ae_sttype.specs.Slots.{slots}
use Rattle.ae_sttype.proofs.Places.{slot_at}
use Rattle.ae_ops.specs.Blocks.{stream_of, stream_widths}
use Rattle.ae_seq.specs.Meaning.{at}
use Rattle.ae_rewrite.specs.Scheduled.{IsFilling}
use Rattle.ae_ports.specs.Ports.{streams_of, columns_in}
use Rattle.ae_layout.specs.Standing.{element_in, layout_row}
use Rattle.ae_layout.specs.Rows.{fill_words}
use Rattle.ae_layout.proofs.Standing.{element_stands, element_found}
use Rattle.ae_layout.proofs.RowWords.{stood, unfilled}
use Rattle.ae_play.specs.Fed.{clock_row, block_row, fed_rows}
use Rattle.ae_correct.specs.ClockTexts.{fill_word, IsTaken}
use Rattle.ae_correct.proofs.ModulePorts.{mapped_at}
use Rattle.ae_ports.proofs.Columns.{stream_columns}
use Rattle.ae_correct.proofs.Rows.{fill_at, rows_at}

-- layouts in size, each as many clocks as the slowdown
abbrev pub FillAll : (slowdown : ℕ) → List StTree → Type 0
FillAll slowdown ss = (q : ℕ) (s : StTree) → slice_get ss q ≡ Some s → IsFilling slowdown s

-- a value for each layout
abbrev pub AreWhole : List StTree → List (List ValueTree) → Type 0
AreWhole ss blocks = (b : ℕ) (block : List ValueTree) → slice_get blocks b ≡ Some block → length block ≡ length ss

-- ---- the rows one by one

pub length_rows : (slowdown fill : ℕ) (ss : List StTree) (words : List (List (List ℕ))) (count : ℕ) → length (fed_rows slowdown fill ss words count) ≡ 1 + count
length_rows slowdown fill ss words count = omega (arith, length-map-range_with_len (clock_row slowdown fill ss words) 0 count)

pub row_later : (slowdown fill : ℕ) (ss : List StTree) (words : List (List (List ℕ))) (count c : ℕ) → c < count
    → get_or (fed_rows slowdown fill ss words count) (suc c) [] ≡ clock_row slowdown fill ss words c
row_later slowdown fill ss words count c below =
    let z : 0 + c ≡ c = omega arith in get_or-map-range_with_len (clock_row slowdown fill ss words) 0 count c c [] below z

pub small_column : (s : StTree) (l j : ℕ) → l < lanes s → j < element_words s → l * element_words s + j < length (stream_widths (stream_of s))
small_column s l j lane word = omega (arith, stream_columns s, mul-add-lt l (element_words s) j (lanes s) lane word)

-- ---- the words in them

value_there : (block : List ValueTree) (q : ℕ) → q < length block → slice_get block q ≡ Some (at block q)
value_there block q inside = slice_get-get_or block q end inside ∙ ap Some (sym (unwrap_or-slice_get block q end))

fill_got : (fill : ℕ) (s : StTree) (j : ℕ) → fill_word fill s j ≡ get_or (fill_words (element_atom s) fill) j 0
fill_got fill s j = unwrap_or-slice_get (fill_words (element_atom s) fill) j 0

module _ (slowdown fill : ℕ) (ss : List StTree) (blocks : List (List ValueTree)) (count : ℕ) (sized : FillAll slowdown ss) (whole : AreWhole ss blocks) where
  abbrev words : List (List (List ℕ))
  words = map (map flat) blocks

  abbrev rows : List (List ℕ)
  rows = fed_rows slowdown fill ss words count

  -- the word of an element that stands, in its clock of block b
  pub stands_in_row : (b q e j : ℕ) (s : StTree) (w : Slot) (block : List ValueTree) → slice_get blocks b ≡ Some block → slice_get ss q ≡ Some s
      → slice_get (slots s) e ≡ Some w → j < element_words s → w.clock < time s → w.lane < lanes s
      → get_or (clock_row slowdown fill ss words (b * slowdown + w.clock))
      (suc (columns_in (take q (streams_of ss)) + (w.lane * element_words s + j))) 0 ≡ unwrap_or (slice_get (flat (at block q)) (e * element_words s + j)) 0
  stands_in_row b q e j s w block there found slot word clock lane =
      let f = sized q s found in
      let in_block : w.clock < slowdown = omega (arith, clock, f.time) in
      let many : length block ≡ length ss = whole b block there in
      let inside : q < length block = omega (arith, many, slice_get_within ss q s found) in
      let value : slice_get (map flat block) q ≡ Some (flat (at block q)) = mapped_at flat block q (at block q) (value_there block q inside) in
      let k : ℕ = columns_in (take q (streams_of ss)) + (w.lane * element_words s + j) in
      ap (λ i. get_or (block_row fill ss (slice_get words i) ((b * slowdown + w.clock) % slowdown)) k 0) (div-mul-add b slowdown w.clock in_block)
      ∙ ap (λ i. get_or (block_row fill ss (slice_get words b) i) k 0) (mod-mul-add b slowdown w.clock in_block)
      ∙ ap (λ o. get_or (block_row fill ss o w.clock) k 0) (mapped_at (map flat) blocks b block there)
      ∙ rows_at fill w.clock ss (map flat block) q (w.lane * element_words s + j) s (flat (at block q)) found value
      (omega (arith, many, length-map block flat)) (small_column s w.lane j lane word)
      ∙ stood fill s (flat (at block q)) (Some w.clock) w.lane j e lane word (element_found s w.clock w.lane e f.size.lengths slot)
      ∙ sym (unwrap_or-slice_get (flat (at block q)) (e * element_words s + j) 0)

  filled_element : (q l j c : ℕ) (s : StTree) (block : List ValueTree) (o : Option ℕ) → slice_get blocks (c / slowdown) ≡ Some block → l < lanes s
      → j < element_words s → (IsTaken s slowdown (length blocks) l (suc c) → ⊥) → element_in s (c % slowdown) l ≡ o
      → get_or (layout_row fill s (flat (at block q)) (Some (c % slowdown))) (l * element_words s + j) 0 ≡ fill_word fill s j
  filled_element q l j c s block None there lane word free is =
      unfilled fill s (flat (at block q)) (Some (c % slowdown)) l j lane word is ∙ sym (fill_got fill s j)
  filled_element q l j c s block (Some e) there lane word free is =
      absurd (free (record {
        block = c / slowdown;
        element = e;
        slot = slot_at (c % slowdown) l;
        there = slice_get_within blocks (c / slowdown) block there;
        found = element_stands s (c % slowdown) l e is;
        on = refl;
        now = omega (arith, div-add-mod' c slowdown);
      }))

  filled_block : (q l j c : ℕ) (s : StTree) (o : Option (List ValueTree)) → slice_get ss q ≡ Some s → l < lanes s → j < element_words s
      → (IsTaken s slowdown (length blocks) l (suc c) → ⊥) → slice_get blocks (c / slowdown) ≡ o
      → get_or (block_row fill ss (option_map (map flat) o) (c % slowdown))
      (columns_in (take q (streams_of ss)) + (l * element_words s + j)) 0 ≡ fill_word fill s j
  filled_block q l j c s None found lane word free is =
      fill_at fill ss q (l * element_words s + j) s found (small_column s l j lane word) ∙ unfilled fill s [] None l j lane word refl
      ∙ sym (fill_got fill s j)
  filled_block q l j c s (Some block) found lane word free is =
      let many : length block ≡ length ss = whole (c / slowdown) block is in
      let inside : q < length block = omega (arith, many, slice_get_within ss q s found) in
      let value : slice_get (map flat block) q ≡ Some (flat (at block q)) = mapped_at flat block q (at block q) (value_there block q inside) in
      rows_at fill (c % slowdown) ss (map flat block) q (l * element_words s + j) s (flat (at block q)) found value
      (omega (arith, many, length-map block flat)) (small_column s l j lane word)
      ∙ filled_element q l j c s block (element_in s (c % slowdown) l) is lane word free refl

  -- the fill, where no element of a block stands
  pub free_in_row : (q l j t : ℕ) (s : StTree) → slice_get ss q ≡ Some s → l < lanes s → j < element_words s → t < length rows
      → (IsTaken s slowdown (length blocks) l t → ⊥)
      → get_or (get_or rows t []) (suc (columns_in (take q (streams_of ss)) + (l * element_words s + j))) 0 ≡ fill_word fill s j
  free_in_row q l j zero s found lane word below free =
      fill_at fill ss q (l * element_words s + j) s found (small_column s l j lane word) ∙ unfilled fill s [] None l j lane word refl
      ∙ sym (fill_got fill s j)
  free_in_row q l j (suc c) s found lane word below free =
      let k : ℕ = columns_in (take q (streams_of ss)) + (l * element_words s + j) in
      ap (λ r. get_or r (suc k) 0) (row_later slowdown fill ss words count c (omega (arith, below, length_rows slowdown fill ss words count)))
      ∙ ap (λ o. get_or (block_row fill ss o (c % slowdown)) k 0) (slice_get-map (map flat) blocks (c / slowdown))
      ∙ filled_block q l j c s (slice_get blocks (c / slowdown)) found lane word free refl
