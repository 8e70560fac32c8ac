use Rattle.std.proofs.Common.{◌++◌, arith, sym, ap, ◌∙◌}
use Rattle.std.proofs.lemmas.List.{append-nil}
use Rattle.ae_word.specs.AtomTree.{atom_kinds}
use Rattle.ae_word.proofs.Sizes.{length-atom_kinds}
use Rattle.ae_sttype.specs.StTree.{element_atom, element_words, st_tree}
use Rattle.ae_layout.proofs.RowWords.{lane_all, lane_more}
use Rattle.ae_layout.proofs.row.push_lane.Goals as goal

pub loop-j-preserved : goal.loop-j-preserved
loop-j-preserved c =
    rw (c.in_ok-push.ensures.items)
    (lane_more c.args.fill (element_words (st_tree c.args.s.now)) c.args.value.now c.args.element c.loop-j.j
    (atom_kinds (element_atom (st_tree c.args.s.now))) c.loop-j.row.items c.lane_word.result _
    (omega (arith, c.loop-j-test.true, c.element_words-size.ensures, length-atom_kinds (element_atom (st_tree c.args.s.now)))) c.lane_word.ensures
    c.loop-j.invariant)

pub returns : goal.returns
returns c =
    let none = lane_all c.args.fill (element_words (st_tree c.args.s.now)) c.args.value.now c.args.element c.loop-j.j
    (atom_kinds (element_atom (st_tree c.args.s.now)))
    (omega (arith, c.loop-j-test.false, c.element_words-size.ensures, length-atom_kinds (element_atom (st_tree c.args.s.now)))) in
    sym (append-nil c.loop-j.row.items) ∙ (ap (λ ys. c.loop-j.row.items ++ ys) (sym none) ∙ c.loop-j.invariant)
