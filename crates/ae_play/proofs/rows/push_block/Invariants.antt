use Rattle.std.proofs.Common.{◌≡◌, ◌++◌, ◌+◌, length, drop, map}
use Rattle.ae_sttype.specs.StTree.{st_tree}
use Rattle.ae_play.specs.Fed.{layout_rows, size_of, values_of}
use Rattle.ae_play.proofs.rows.push_block.Given as goal

abbrev pub invariant-loop-s : goal.invariant-loop-s
invariant-loop-s l = record {
  rest : l.row.items ++ layout_rows l.fill (drop l.s-index (map st_tree l.ins)) (values_of (drop l.s-index (map st_tree l.ins)) (drop l.first l.words)) l.clock
      ≡ l.fn.row.items ++ layout_rows l.fill (map st_tree l.ins) (values_of (map st_tree l.ins) l.words) l.clock;
  left : l.first + size_of (drop l.s-index (map st_tree l.ins)) ≡ length l.words;
}
