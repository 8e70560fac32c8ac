-- The slot of the word's origin, if it has one, and that of the output word.
use Rattle.std.proofs.Common.{ℕ, ◌<◌, ◌-◌, ◌∙◌, length, refl, arith, ap}
use Rattle.std.proofs.lemmas.Option.{slice_get_read}
use Rattle.ae_sttype.specs.declared.st_type.Slot.{Slot}
use Rattle.ae_sttype.specs.StTree.{st_tree}
use Rattle.ae_moves.proofs.CodeLaws.{element_below, input_below, lead_is, origin_there, slot_of_word}
use Rattle.ae_moves.proofs.Words.{words_pos}
use Rattle.ae_moves.proofs.layouts.lead.Goals as goal

pub nonzero_div-o : goal.nonzero_div-o
nonzero_div-o c = omega (arith, words_pos (st_tree c.args.out.now), c.element_words.ensures)

pub slot-slot-requires-clause-below : goal.slot-slot-requires-clause-below
slot-slot-requires-clause-below c = element_below (st_tree c.args.out.now) c.args.o c.element_words.result c.element_words.ensures c.requires.below

pub bounds-ins-input : goal.bounds-ins-input
bounds-ins-input c = input_below c.args.ins.now c.in-Word.input c.in-Word.element c.in-Word.word c.requires.there.0 (rw c.in-Word.is at c.requires.there.1)

pub slot-requires-clause-in_size : goal.slot-requires-clause-in_size
slot-requires-clause-in_size c =
    let i : ℕ = c.in-Word.input in
    let l : i < length c.args.ins.now = input_below c.args.ins.now i c.in-Word.element c.in-Word.word c.requires.there.0
    (rw c.in-Word.is at c.requires.there.1) in
    c.requires.sizes i c.index-ins-input.result (slice_get_read c.args.ins.now (length c.args.ins.now) i c.index-ins-input.result refl l c.index-ins-input.is)

pub slot-requires-clause-below : goal.slot-requires-clause-below
slot-requires-clause-below c =
    let i : ℕ = c.in-Word.input in
    let has = rw c.in-Word.is at c.requires.there.1 in
    let l : i < length c.args.ins.now = input_below c.args.ins.now i c.in-Word.element c.in-Word.word c.requires.there.0 has in
    let found = slice_get_read c.args.ins.now (length c.args.ins.now) i c.index-ins-input.result refl l c.index-ins-input.is in
    (origin_there c.args.ins.now i c.in-Word.element c.in-Word.word c.requires.there.0 c.index-ins-input.result has found).0

pub returns-in-Fixed : goal.returns-in-Fixed
returns-in-Fixed c = rw c.in-Fixed.is refl

pub returns-in-Word : goal.returns-in-Word
returns-in-Word c =
    let i : ℕ = c.in-Word.input in
    let l : i < length c.args.ins.now = input_below c.args.ins.now i c.in-Word.element c.in-Word.word c.requires.there.0
    (rw c.in-Word.is at c.requires.there.1) in
    let found = slice_get_read c.args.ins.now (length c.args.ins.now) i c.index-ins-input.result refl l c.index-ins-input.is in
    let here = slot_of_word (st_tree c.args.out.now) c.args.o c.element_words.result c.slot-slot.result c.element_words.ensures c.slot-slot.ensures.place in
    rw c.in-Word.is
    (c.saturating_sub.ensures ∙ ap (λ (s : Slot). c.slot.result.clock - s.clock) here ∙ lead_is c.args.ins.now i c.in-Word.element c.in-Word.word _
    c.index-ins-input.result c.slot.result found c.slot.ensures.place)
