use Rattle.std.proofs.Common.{ap, ◌≡◌, arith}
use Rattle.ae_sttype.specs.StTree.{lanes, sseq, st_tree, time, tseq, st_depth}
use Rattle.ae_sttype.proofs.Bounds.{atoms_pos, part_of_sseq, part_of_tseq}
use Rattle.ae_sttype.proofs.Places.{slot_by_tseq, slot_by_sseq, sseq_fits_by, tseq_fits_by, rest_by}
use Rattle.ae_sttype.proofs.st_type.StType.+slot.Goals as goal

pub atoms-size-requires : goal.atoms-size-requires
atoms-size-requires t c =
    let is : st_tree c.args.self.now ≡ tseq c.in-T.n c.in-T.i (st_tree c.deref-of.result.now) = cc (ap st_tree c.in-T.is) in
    part_of_tseq _ _ _ _ is c.requires.in_size

pub nonzero_rem-e : goal.nonzero_rem-e
nonzero_rem-e t c =
    let is : st_tree c.args.self.now ≡ tseq c.in-T.n c.in-T.i (st_tree c.deref-of.result.now) = cc (ap st_tree c.in-T.is) in
    omega (arith, atoms_pos _ (part_of_tseq _ _ _ _ is c.requires.in_size).lengths, c.atoms-size.ensures)

pub slot-inner-requires : goal.slot-inner-requires
slot-inner-requires t c =
    let is : st_tree c.args.self.now ≡ tseq c.in-T.n c.in-T.i (st_tree c.deref-of.result.now) = cc (ap st_tree c.in-T.is) in
    let small = part_of_tseq _ _ _ _ is c.requires.in_size in
    (omega (arith, ap st_depth is), (small, rest_by _ _ _ c.atoms-size.ensures small.lengths))

pub nonzero_div-result : goal.nonzero_div-result
nonzero_div-result t c =
    let is : st_tree c.args.self.now ≡ tseq c.in-T.n c.in-T.i (st_tree c.deref-of.result.now) = cc (ap st_tree c.in-T.is) in
    omega (arith, atoms_pos _ (part_of_tseq _ _ _ _ is c.requires.in_size).lengths, c.atoms-size.ensures)

pub time-requires : goal.time-requires
time-requires t c =
    let is : st_tree c.args.self.now ≡ tseq c.in-T.n c.in-T.i (st_tree c.deref-of.result.now) = cc (ap st_tree c.in-T.is) in
    part_of_tseq _ _ _ _ is c.requires.in_size

pub overflow_mul-result : goal.overflow_mul-result
overflow_mul-result t c =
    let is : st_tree c.args.self.now ≡ tseq c.in-T.n c.in-T.i (st_tree c.deref-of.result.now) = cc (ap st_tree c.in-T.is) in
    let fits =
    tseq_fits_by _ _ _ _ c.atoms-size.result c.time.result c.args.e c.slot-inner.result.clock is c.atoms-size.ensures c.time.ensures
    c.requires.in_size.lengths c.requires.below
    c.slot-inner.ensures.clock_in
    in
    omega (arith, fits, c.requires.in_size.in_time)

pub overflow_add-result : goal.overflow_add-result
overflow_add-result t c =
    let is : st_tree c.args.self.now ≡ tseq c.in-T.n c.in-T.i (st_tree c.deref-of.result.now) = cc (ap st_tree c.in-T.is) in
    let fits =
    tseq_fits_by _ _ _ _ c.atoms-size.result c.time.result c.args.e c.slot-inner.result.clock is c.atoms-size.ensures c.time.ensures
    c.requires.in_size.lengths c.requires.below
    c.slot-inner.ensures.clock_in
    in
    omega (arith, fits, c.requires.in_size.in_time)

pub returns-in-T-clause-place : goal.returns-in-T-clause-place
returns-in-T-clause-place t c =
    slot_by_tseq (st_tree c.args.self.now) (st_tree c.in-T.of.value) c.in-T.n c.in-T.i c.atoms-size.result c.time.result c.args.e c.slot-inner.result
    (ap st_tree c.in-T.is) (cc) (cc) c.requires.in_size.lengths c.requires.below (cc c.slot-inner.ensures.place)

pub returns-in-T-clause-clock_in : goal.returns-in-T-clause-clock_in
returns-in-T-clause-clock_in t c =
    let is : st_tree c.args.self.now ≡ tseq c.in-T.n c.in-T.i (st_tree c.deref-of.result.now) = cc (ap st_tree c.in-T.is) in
    tseq_fits_by _ _ _ _ c.atoms-size.result c.time.result c.args.e c.slot-inner.result.clock is c.atoms-size.ensures c.time.ensures
    c.requires.in_size.lengths c.requires.below
    c.slot-inner.ensures.clock_in

pub returns-in-T-clause-lane_in : goal.returns-in-T-clause-lane_in
returns-in-T-clause-lane_in t c =
    let is : st_tree c.args.self.now ≡ tseq c.in-T.n c.in-T.i (st_tree c.deref-of.result.now) = cc (ap st_tree c.in-T.is) in
    omega (arith, ap lanes is, c.slot-inner.ensures.lane_in)

pub atoms-size-requires-in-S : goal.atoms-size-requires-in-S
atoms-size-requires-in-S t c =
    let is : st_tree c.args.self.now ≡ sseq c.in-S.n (st_tree c.deref-of-in-S.result.now) = cc (ap st_tree c.in-S.is) in
    part_of_sseq _ _ _ is c.requires.in_size

pub nonzero_rem-e-in-S : goal.nonzero_rem-e-in-S
nonzero_rem-e-in-S t c =
    let is : st_tree c.args.self.now ≡ sseq c.in-S.n (st_tree c.deref-of-in-S.result.now) = cc (ap st_tree c.in-S.is) in
    omega (arith, atoms_pos _ (part_of_sseq _ _ _ is c.requires.in_size).lengths, c.atoms-size-in-S.ensures)

pub slot-inner-requires-in-S : goal.slot-inner-requires-in-S
slot-inner-requires-in-S t c =
    let is : st_tree c.args.self.now ≡ sseq c.in-S.n (st_tree c.deref-of-in-S.result.now) = cc (ap st_tree c.in-S.is) in
    let small = part_of_sseq _ _ _ is c.requires.in_size in
    (omega (arith, ap st_depth is), (small, rest_by _ _ _ c.atoms-size-in-S.ensures small.lengths))

pub lanes-requires : goal.lanes-requires
lanes-requires t c =
    let is : st_tree c.args.self.now ≡ sseq c.in-S.n (st_tree c.deref-of-in-S.result.now) = cc (ap st_tree c.in-S.is) in
    part_of_sseq _ _ _ is c.requires.in_size

pub returns-in-S-clause-place : goal.returns-in-S-clause-place
returns-in-S-clause-place t c =
    slot_by_sseq (st_tree c.args.self.now) (st_tree c.in-S.of.value) c.in-S.n c.atoms-size-in-S.result c.lanes.result c.args.e c.slot-inner-in-S.result
    (ap st_tree c.in-S.is) (cc) (cc) c.requires.in_size.lengths c.requires.below (cc c.slot-inner-in-S.ensures.place)

pub returns-in-S-clause-clock_in : goal.returns-in-S-clause-clock_in
returns-in-S-clause-clock_in t c =
    let is : st_tree c.args.self.now ≡ sseq c.in-S.n (st_tree c.deref-of-in-S.result.now) = cc (ap st_tree c.in-S.is) in
    omega (arith, ap time is, c.slot-inner-in-S.ensures.clock_in)

pub returns-in-S-clause-lane_in : goal.returns-in-S-clause-lane_in
returns-in-S-clause-lane_in t c =
    let is : st_tree c.args.self.now ≡ sseq c.in-S.n (st_tree c.deref-of-in-S.result.now) = cc (ap st_tree c.in-S.is) in
    sseq_fits_by _ _ _ c.atoms-size-in-S.result c.lanes.result c.args.e c.slot-inner-in-S.result.lane is c.atoms-size-in-S.ensures c.lanes.ensures
    c.requires.in_size.lengths c.requires.below
    c.slot-inner-in-S.ensures.lane_in
