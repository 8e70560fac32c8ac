use Rattle.std.proofs.Common.{arith, ap}
use Rattle.ae_word.specs.AtomTree.{atom_kinds}
use Rattle.ae_sttype.specs.StTree.{element_atom, element_words, lanes, st_tree}
use Rattle.ae_layout.specs.Standing.{lane_words, standing}
use Rattle.ae_layout.proofs.RowWords.{lanes_more}
use Rattle.ae_layout.proofs.row.push_layout.Goals as goal

pub loop-lane-preserved : goal.loop-lane-preserved
loop-lane-preserved c =
    let s = st_tree c.args.s.now in
    record {
      rest = rw (c.in_ok-push_lane.ensures)
          (lanes_more (λ i. lane_words c.args.fill (element_words s) c.args.value.now (standing s c.args.clock i) 0 (atom_kinds (element_atom s)))
          (lanes s) c.loop-lane.lane c.loop-lane.row.items
          _ _ (omega (arith, c.loop-lane-test.true, c.lanes-lane-end.ensures))
          (ap (λ o. lane_words c.args.fill (element_words s) c.args.value.now o 0 (atom_kinds (element_atom s))) c.standing.ensures.is)
          c.loop-lane.invariant.rest);
      within = omega (arith, c.loop-lane-test.true, c.lanes-lane-end.ensures);
    }
