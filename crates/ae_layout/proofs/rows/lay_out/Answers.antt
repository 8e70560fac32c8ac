use Rattle.std.proofs.Common.{◌*◌, ◌++◌, ◌∙◌, Some, ap, arith}
use Rattle.ae_sttype.specs.StTree.{st_tree}
use Rattle.ae_layout.specs.Standing.{layout_row}
use Rattle.ae_layout.proofs.PieceLemmas.{columns_below}
use Rattle.ae_layout.proofs.LaidOut.{laid, row_more}
use Rattle.ae_layout.proofs.rows.lay_out.Goals as goal

pub loop-clock-preserved : goal.loop-clock-preserved
loop-clock-preserved c = record {
  rows = row_more c.args.fill (st_tree c.args.s.now) c.args.v.now c.loop-clock.clock c.loop-clock.words.items c.push_layout.new.row.items
      c.loop-clock.invariant.rows (c.in_ok-push_layout.ensures ∙
      ap (λ v. c.loop-clock.words.items ++ layout_row c.args.fill (st_tree c.args.s.now) v (Some c.loop-clock.clock)) (c.deref.ensures.value ∙ c.v.view_is));
  within = omega (arith, c.loop-clock-test.true, c.time-clock-end.ensures);
}

pub overflow_mul-columns : goal.overflow_mul-columns
overflow_mul-columns c =
    omega (
      arith,
      ap (λ x. x * c.element_words.result) c.lanes.ensures,
      columns_below (st_tree c.args.s.now) c.element_words.result c.requires.in_size c.element_words.ensures,
    )

pub returns-clause-clocks : goal.returns-clause-clocks
returns-clause-clocks c =
    let all =
    laid c.args.fill (st_tree c.args.s.now) c.args.v.now c.loop-clock.clock c.lanes.result c.element_words.result c.loop-clock.words.items
    c.requires.in_size.lengths c.loop-clock.invariant.rows
    (omega (arith, c.loop-clock.invariant.within, c.loop-clock-test.false, c.time-clock-end.ensures)) c.lanes.ensures c.element_words.ensures in
    omega (arith, all.clocks)

pub returns-clause-holds : goal.returns-clause-holds
returns-clause-holds c =
    (laid c.args.fill (st_tree c.args.s.now) c.args.v.now c.loop-clock.clock c.lanes.result c.element_words.result c.loop-clock.words.items
    c.requires.in_size.lengths c.loop-clock.invariant.rows
    (omega (arith, c.loop-clock.invariant.within, c.loop-clock-test.false, c.time-clock-end.ensures)) c.lanes.ensures c.element_words.ensures).holds

pub returns-clause-filled : goal.returns-clause-filled
returns-clause-filled c =
    (laid c.args.fill (st_tree c.args.s.now) c.args.v.now c.loop-clock.clock c.lanes.result c.element_words.result c.loop-clock.words.items
    c.requires.in_size.lengths c.loop-clock.invariant.rows
    (omega (arith, c.loop-clock.invariant.within, c.loop-clock-test.false, c.time-clock-end.ensures)) c.lanes.ensures c.element_words.ensures).filled
