use Rattle.std.proofs.Common.{◌≡◌, ◌++◌, drop, map}
use Rattle.ae_sttype.specs.StTree.{st_tree}
use Rattle.ae_play.specs.Fed.{fill_row}
use Rattle.ae_play.proofs.rows.push_fill.Given as goal

abbrev pub invariant-loop-s : goal.invariant-loop-s
invariant-loop-s l = l.row.items ++ fill_row l.fill (drop l.s-index (map st_tree l.ins)) ≡ l.fn.row.items ++ fill_row l.fill (map st_tree l.ins)
