use Rattle.std.proofs.Common.{◌≡◌, ◌++◌, ◌-◌, ◌≤◌, flat_map}
use Rattle.std.specs.List.{range_with_len}
use Rattle.ae_word.specs.AtomTree.{atom_kinds}
use Rattle.ae_sttype.specs.StTree.{element_atom, element_words, lanes, st_tree}
use Rattle.ae_layout.specs.Standing.{lane_words, layout_row, standing}
use Rattle.ae_layout.proofs.row.push_layout.Given as goal

abbrev pub invariant-loop-lane : goal.invariant-loop-lane
invariant-loop-lane l = record {
  rest : l.row.items ++ flat_map (λ i. lane_words l.fill (element_words (st_tree l.s)) l.value (standing (st_tree l.s) l.clock i) 0
      (atom_kinds (element_atom (st_tree l.s)))) (range_with_len l.lane (lanes (st_tree l.s) - l.lane))
      ≡ l.fn.row.items ++ layout_row l.fill (st_tree l.s) l.value l.clock;
  within : l.lane ≤ lanes (st_tree l.s);
}
