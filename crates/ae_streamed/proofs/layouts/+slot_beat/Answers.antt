-- The bit of a layout, by its form.
use Rattle.std.proofs.Common.{◌≡◌, true, ◌<◌, ap, arith, subst}
use Rattle.ae_sttype.specs.StTree.{st_depth, st_tree, sseq, time, tseq}
use Rattle.ae_sttype.proofs.Bounds.{part_of_sseq, part_of_tseq}
use Rattle.ae_streamed.proofs.Bits.{atom_told, bit_later, constant_bit, in_sseq_gained, in_tseq_gained, times}
use Rattle.ae_streamed.proofs.Counted.{gate_more, one_cell, part_cells}
use Rattle.ae_streamed.proofs.layouts.+slot_beat.Goals as goal

pub returns-in_ok-y-in-Atom-clause-gains : goal.returns-in_ok-y-in-Atom-clause-gains
returns-in_ok-y-in-Atom-clause-gains t c =
    constant_bit c.args.nl.now c.constant.new.nl c.args.clocks.now c.in_ok-y-in-Atom.y.0 true _ c.requires.belongs c.in_ok-y-in-Atom.ensures.adds.grows
    c.in_ok-y-in-Atom.ensures.net c.in_ok-y-in-Atom.ensures.words
    (λ k. atom_told (st_tree c.args.layout.now) _ c.args.offset k (ap st_tree c.in-Atom.is))

pub slot_beat-requires : goal.slot_beat-requires
slot_beat-requires t c =
    let is : st_tree c.args.layout.now ≡ tseq c.in-T.n c.in-T.i (st_tree c.deref-of.result.now) = cc (ap st_tree c.in-T.is) in
    let size = part_of_tseq (st_tree c.args.layout.now) (st_tree c.deref-of.result.now) c.in-T.n c.in-T.i is c.requires.in_size in
    let at = times (st_tree c.args.layout.now) (st_tree c.deref-of.result.now) c.in-T.n c.in-T.i c.time-span.result c.args.offset is c.time-span.ensures
    c.requires.in_size c.requires.low in
    (omega (arith, ap st_depth is), (c.requires.belongs, (size, (at.rest, omega (arith, c.requires.room, ap st_depth is)))))

pub slot_beat-requires-in-S : goal.slot_beat-requires-in-S
slot_beat-requires-in-S t c =
    let is : st_tree c.args.layout.now ≡ sseq c.in-S.n (st_tree c.deref-of-in-S.result.now) = cc (ap st_tree c.in-S.is) in
    let size = part_of_sseq (st_tree c.args.layout.now) (st_tree c.deref-of-in-S.result.now) c.in-S.n is c.requires.in_size in (
      omega (arith, ap st_depth is),
      (c.requires.belongs, (size, (subst (λ v. c.args.offset < time v) is c.requires.low, omega (arith, c.requires.room, ap st_depth is)))),
    )

pub both-requires-clause-right : goal.both-requires-clause-right
both-requires-clause-right t c = (bit_later c.in_ok-here-in-T.ensures.gains.grows c.in_ok-inner-in-T.ensures.gains.told).net

pub returns-in_ok-y-in-T-clause-gains : goal.returns-in_ok-y-in-T-clause-gains
returns-in_ok-y-in-T-clause-gains t c =
    let is : st_tree c.args.layout.now ≡ tseq c.in-T.n c.in-T.i (st_tree c.deref-of.result.now) = cc (ap st_tree c.in-T.is) in
    in_tseq_gained c.args.nl.now c.slot_beat.new.nl c.period_bit.new.nl c.both.new.nl c.args.clocks.now c.slot_beat.new.clocks c.period_bit.new.clocks
    c.in_ok-inner-in-T.inner.0 c.in_ok-here-in-T.here.0 c.in_ok-y-in-T.y.0 c.args.offset
    c.in_ok-y-in-T.ensures.adds.grows c.in_ok-y-in-T.ensures.told (st_tree c.args.layout.now)
    (st_tree c.deref-of.result.now) c.in-T.n c.in-T.i c.time-span.result is c.time-span.ensures c.requires.in_size.lengths c.requires.low
    c.in_ok-inner-in-T.ensures.gains c.in_ok-here-in-T.ensures.gains

pub returns-in_ok-y-in-S-clause-gains : goal.returns-in_ok-y-in-S-clause-gains
returns-in_ok-y-in-S-clause-gains t c =
    in_sseq_gained c.args.nl.now c.slot_beat-in-S.new.nl c.args.clocks.now c.slot_beat-in-S.new.clocks c.in_ok-y-in-S.y.0 c.args.offset
    (st_tree c.args.layout.now) (st_tree c.deref-of-in-S.result.now) c.in-S.n (cc (ap st_tree c.in-S.is)) c.requires.in_size.lengths
    c.in_ok-y-in-S.ensures.gains

pub returns-in_ok-y-in-Atom-clause-adds : goal.returns-in_ok-y-in-Atom-clause-adds
returns-in_ok-y-in-Atom-clause-adds t c = one_cell (st_tree c.args.layout.now) c.in_ok-y-in-Atom.ensures.adds

pub returns-in_ok-y-in-T-clause-adds : goal.returns-in_ok-y-in-T-clause-adds
returns-in_ok-y-in-T-clause-adds t c =
    let is : st_tree c.args.layout.now ≡ tseq c.in-T.n c.in-T.i (st_tree c.deref-of.result.now) = cc (ap st_tree c.in-T.is) in
    gate_more (st_tree c.args.layout.now) (st_tree c.deref-of.result.now)
    (ap st_depth is) c.in_ok-inner-in-T.ensures.adds c.in_ok-here-in-T.ensures.adds c.in_ok-y-in-T.ensures.adds

pub returns-in_ok-y-in-S-clause-adds : goal.returns-in_ok-y-in-S-clause-adds
returns-in_ok-y-in-S-clause-adds t c =
    let is : st_tree c.args.layout.now ≡ sseq c.in-S.n (st_tree c.deref-of-in-S.result.now) = cc (ap st_tree c.in-S.is) in
    part_cells (st_tree c.args.layout.now) (st_tree c.deref-of-in-S.result.now) (ap st_depth is) c.in_ok-y-in-S.ensures.adds

pub constant-requires-clause-room : goal.constant-requires-clause-room
constant-requires-clause-room t c = omega (arith, c.requires.room)

pub period_bit-requires-clause-room : goal.period_bit-requires-clause-room
period_bit-requires-clause-room t c =
    let is : st_tree c.args.layout.now ≡ tseq c.in-T.n c.in-T.i (st_tree c.deref-of.result.now) = cc (ap st_tree c.in-T.is) in
    omega (arith, c.requires.room, ap st_depth is, c.in_ok-inner-in-T.ensures.adds.cells, c.in_ok-inner-in-T.ensures.adds.grows.limit)

pub both-requires-clause-room : goal.both-requires-clause-room
both-requires-clause-room t c =
    let is : st_tree c.args.layout.now ≡ tseq c.in-T.n c.in-T.i (st_tree c.deref-of.result.now) = cc (ap st_tree c.in-T.is) in
    omega (
      arith,
      c.requires.room,
      ap st_depth is,
      c.in_ok-inner-in-T.ensures.adds.cells,
      c.in_ok-inner-in-T.ensures.adds.grows.limit,
      c.in_ok-here-in-T.ensures.adds.cells,
      c.in_ok-here-in-T.ensures.adds.grows.limit,
    )
