use Rattle.std.proofs.Common.{◌≡◌, ◌++◌, drop}
use Rattle.ae_word.specs.AtomTree.{atom_kinds}
use Rattle.ae_sttype.specs.StTree.{element_atom, element_words, st_tree}
use Rattle.ae_layout.specs.Standing.{lane_words}
use Rattle.ae_layout.proofs.row.push_lane.Given as goal

abbrev pub invariant-loop-j : goal.invariant-loop-j
invariant-loop-j l =
    l.row.items ++ lane_words l.fill (element_words (st_tree l.s)) l.value l.element l.j (drop l.j (atom_kinds (element_atom (st_tree l.s))))
    ≡ l.fn.row.items ++ lane_words l.fill (element_words (st_tree l.s)) l.value l.element 0 (atom_kinds (element_atom (st_tree l.s)))
