use Rattle.std.proofs.Common.{arith, ◌*◌, ap}
use Rattle.ae_sttype.specs.StTree.{st_tree, lanes}
use Rattle.ae_layout.proofs.PieceLemmas.{columns_below, taken_piece, holds_taken}
use Rattle.ae_layout.proofs.rows.taken_words.Goals as goal

pub overflow_mul-columns : goal.overflow_mul-columns
overflow_mul-columns c =
    omega (arith, ap (λ x. x * c.args.width) c.lanes.ensures, columns_below (st_tree c.args.of.now) c.args.width c.requires.in_size c.requires.words)

pub loop-e-preserved : goal.loop-e-preserved
loop-e-preserved c =
    rw (c.in_ok-extend_from_slice.ensures.items, c.lanes.ensures)
    (taken_piece (st_tree c.args.of.now) c.args.width c.loop-e.e _ c.args.rows.now c.loop-e.words.items c.slot-slot.result
    (omega arith) c.loop-e.invariant c.slot-slot.ensures.place
    c.slot-slot.ensures.clock_in c.slot-slot.ensures.lane_in c.requires.rows)

pub returns-clause-holds : goal.returns-clause-holds
returns-clause-holds c = holds_taken (st_tree c.args.of.now) c.args.width c.loop-e.e c.args.rows.now c.loop-e.words.items c.loop-e.invariant (omega arith)
