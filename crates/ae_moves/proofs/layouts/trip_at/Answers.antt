-- The slot and the column of the output word.
use Rattle.std.proofs.Common.{◌+◌, ◌*◌, ◌%◌, ◌∙◌, arith, ap}
use Rattle.ae_sttype.specs.declared.st_type.Slot.{Slot}
use Rattle.ae_sttype.specs.StTree.{element_words, lanes, st_tree}
use Rattle.ae_moves.proofs.CodeLaws.{element_below, slot_of_word}
use Rattle.ae_moves.proofs.Words.{words_pos}
use Rattle.ae_moves.proofs.layouts.trip_at.Goals as goal
use Rattle.ae_sttype.proofs.Places.{row_below as in_row}

pub nonzero_div-o : goal.nonzero_div-o
nonzero_div-o c = omega (arith, words_pos (st_tree c.args.out.now), c.element_words-words.ensures)

pub nonzero_rem-o : goal.nonzero_rem-o
nonzero_rem-o c = omega (arith, words_pos (st_tree c.args.out.now), c.element_words-words.ensures)

pub slot-slot-requires-clause-below : goal.slot-slot-requires-clause-below
slot-slot-requires-clause-below c = element_below (st_tree c.args.out.now) c.args.o c.element_words-words.result c.element_words-words.ensures c.requires.below

pub column-requires-clause-lane : goal.column-requires-clause-lane
column-requires-clause-lane c =
    let s = st_tree c.args.out.now in
    rw c.element_words-words.ensures
    (in_row c.slot-slot.result.lane (c.args.o % element_words s) (lanes s) (element_words s) c.slot-slot.ensures.lane_in (omega (arith, words_pos s)))

pub returns-clause-clock : goal.returns-clause-clock
returns-clause-clock c =
    ap (λ (t : Slot). t.clock) (slot_of_word (st_tree c.args.out.now) c.args.o c.element_words-words.result c.slot-slot.result c.element_words-words.ensures
    c.slot-slot.ensures.place)

pub returns-clause-column : goal.returns-clause-column
returns-clause-column c =
    let s = st_tree c.args.out.now in
    let here = slot_of_word s c.args.o c.element_words-words.result c.slot-slot.result c.element_words-words.ensures c.slot-slot.ensures.place in
    c.column.ensures ∙ ap (λ k. c.slot-slot.result.lane * element_words s + c.args.o % k) c.element_words-words.ensures
    ∙ ap (λ (t : Slot). t.lane * element_words s + c.args.o % element_words s) here
