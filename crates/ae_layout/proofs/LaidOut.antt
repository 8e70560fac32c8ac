-- The rows of all clocks of a value: each element's words in its slot, and the fill elsewhere.
use Rattle.std.proofs.Common.{ℕ, ◌≡◌, ◌+◌, ◌*◌, ◌<◌, List, ◌++◌, length, Some, get_or, arith, refl, ap, ◌∙◌}
use Rattle.std.proofs.lemmas.Nat.{mul-add-lt}
use Rattle.std.proofs.lemmas.Option.{unwrap_or-slice_get}
use Rattle.ae_sttype.specs.StTree.{StTree, time, lanes, element_words}
use Rattle.ae_sttype.specs.Slots.{slots}
use Rattle.ae_sttype.specs.Size.{HasLengths}
use Rattle.ae_sttype.specs.Holds.{Holds}
use Rattle.ae_sttype.proofs.Places.{slot_below, stands_from_get}
use Rattle.ae_layout.specs.Rows.{IsFilled, rows_run}
use Rattle.ae_layout.specs.Standing.{layout_row}
use Rattle.ae_layout.proofs.PieceLemmas.{Joined, Pieces, piece_more}
use Rattle.ae_layout.proofs.RowWords.{length_row, stood, unfilled}
use Rattle.ae_layout.proofs.Standing.{element_found, none_found}

-- the words are those of the first clocks
abbrev pub AreRows : (fill : ℕ) → StTree → (value : List ℕ) → (clocks : ℕ) → (words : List ℕ) → Type 0
AreRows fill s value n words = Pieces (Joined (λ c. layout_row fill s value (Some c))) (lanes s * element_words s) n words

pub row_more : (fill : ℕ) (s : StTree) (value : List ℕ) (n : ℕ) (words new : List ℕ) → AreRows fill s value n words → new ≡ words
    ++ layout_row fill s value (Some n) → AreRows fill s value (n + 1) new
row_more fill s value n words new rows is =
    rw is (piece_more (Joined (λ c. layout_row fill s value (Some c))) (lanes s * element_words s) n words (layout_row fill s value (Some n)) rows
    (length_row fill s value (Some n)) (λ j h. refl))

holds_laid : (fill : ℕ) (s : StTree) (value : List ℕ) (n : ℕ) (words : List ℕ) → HasLengths s → AreRows fill s value n words → n ≡ time s
    → Holds (rows_run (lanes s * element_words s) words) 0 (element_words s) (slots s) value
holds_laid fill s value n words lengths rows all e j w at h =
    let there = stands_from_get s e w.clock w.lane at in
    let within = slot_below s lengths e there.below in
    let clock_in : w.clock < time s = rw there.is at within.0 in
    let lane_in : w.lane < lanes s = rw there.is at within.1 in
    let z : 0 + w.clock ≡ w.clock = omega arith in
    rw (unwrap_or-slice_get value (e * element_words s + j) 0)
    (ap (λ c. get_or words (c * (lanes s * element_words s) + (w.lane * element_words s + j)) 0) z
    ∙ rows.each w.clock (w.lane * element_words s + j) (omega (arith, clock_in, all)) (omega (arith, mul-add-lt w.lane (element_words s) j (lanes s) lane_in h))
    ∙ stood fill s value (Some w.clock) w.lane j e lane_in h (element_found s w.clock w.lane e lengths at))

filled_laid : (fill : ℕ) (s : StTree) (value : List ℕ) (n : ℕ) (words : List ℕ) → AreRows fill s value n words → n ≡ time s
    → IsFilled (rows_run (lanes s * element_words s) words) s fill
filled_laid fill s value n words rows all c l j clock_in lane_in h free =
    rows.each c (l * element_words s + j) (omega (arith, clock_in, all)) (omega (arith, mul-add-lt l (element_words s) j (lanes s) lane_in h))
    ∙ unfilled fill s value (Some c) l j lane_in h (none_found s c l free)

-- what is sure of all rows, of so many columns
pub record IsLaid (fill : ℕ) (s : StTree) (value : List ℕ) (columns : ℕ) (words : List ℕ) : Type 0 where
  pub clocks : length words ≡ time s * columns
  pub holds : Holds (rows_run columns words) 0 (element_words s) (slots s) value
  pub filled : IsFilled (rows_run columns words) s fill

pub laid : (fill : ℕ) (s : StTree) (value : List ℕ) (n a b : ℕ) (words : List ℕ) → HasLengths s → AreRows fill s value n words → n ≡ time s → a ≡ lanes s
    → b ≡ element_words s → IsLaid fill s value (a * b) words
laid fill s value n a b words lengths rows all a_is b_is =
    rw (a_is, b_is) (record {
      clocks = rows.long ∙ ap (λ k. k * (lanes s * element_words s)) all;
      holds = holds_laid fill s value n words lengths rows all;
      filled = filled_laid fill s value n words rows all;
    })
