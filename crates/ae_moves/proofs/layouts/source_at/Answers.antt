-- The word of an element stands in its slot, behind the columns of the inputs before.
use Rattle.std.proofs.Common.{ℕ, ◌<◌, length, refl, arith}
use Rattle.std.proofs.lemmas.Option.{get_or_from_slice_get, slice_get_read}
use Rattle.ae_moves.proofs.CodeLaws.{first_room, input_below, lane_below, origin_there, source_is}
use Rattle.ae_moves.proofs.layouts.source_at.Goals as goal

pub column-requires-clause-lane : goal.column-requires-clause-lane
column-requires-clause-lane c =
    let i : ℕ = c.in-Word.input in
    let has = rw c.in-Word.is at c.requires.there.1 in
    let l : i < length c.args.ins.now = input_below c.args.ins.now i c.in-Word.element c.in-Word.word c.requires.there.0 has in
    let found = slice_get_read c.args.ins.now (length c.args.ins.now) i c.index-ins-input.result refl l c.index-ins-input.is in
    let o = origin_there c.args.ins.now i c.in-Word.element c.in-Word.word c.requires.there.0 c.index-ins-input.result has found in
    lane_below _ c.slot-slot.result c.in-Word.element c.in-Word.word _ (c.requires.sizes i c.index-ins-input.result found) o.0 c.slot-slot.ensures.place o.1

pub overflow_add-result : goal.overflow_add-result
overflow_add-result c =
    let i : ℕ = c.in-Word.input in
    let has = rw c.in-Word.is at c.requires.there.1 in
    let l : i < length c.args.ins.now = input_below c.args.ins.now i c.in-Word.element c.in-Word.word c.requires.there.0 has in
    let found = slice_get_read c.args.ins.now (length c.args.ins.now) i c.index-ins-input.result refl l c.index-ins-input.is in
    let o = origin_there c.args.ins.now i c.in-Word.element c.in-Word.word c.requires.there.0 c.index-ins-input.result has found in
    let below = lane_below _ c.slot-slot.result c.in-Word.element c.in-Word.word _
    (c.requires.sizes i c.index-ins-input.result found) o.0 c.slot-slot.ensures.place o.1 in
    let first = get_or_from_slice_get c.args.firsts.now i _ 0 (c.requires.firsts i l) in
    omega (arith, first_room c.args.ins.now i _ c.index-ins-input.result found below, c.requires.room, first, c.column.ensures)

pub returns-in-Word : goal.returns-in-Word
returns-in-Word c =
    let i : ℕ = c.in-Word.input in
    let has = rw c.in-Word.is at c.requires.there.1 in
    let l : i < length c.args.ins.now = input_below c.args.ins.now i c.in-Word.element c.in-Word.word c.requires.there.0 has in
    let found = slice_get_read c.args.ins.now (length c.args.ins.now) i c.index-ins-input.result refl l c.index-ins-input.is in
    let first = get_or_from_slice_get c.args.firsts.now i _ 0 (c.requires.firsts i l) in
    rw c.in-Word.is (source_is c.args.ins.now i c.in-Word.element c.in-Word.word _ _ c.index-ins-input.result c.slot-slot.result found
    c.slot-slot.ensures.place first c.column.ensures)
