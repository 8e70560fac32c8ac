use Rattle.std.proofs.Common.{◌≡◌, ◌+◌, map, drop, sum_by}
use Rattle.ae_sttype.specs.StTree.{st_tree}
use Rattle.ae_sttype.specs.Moves.{columns_of}
use Rattle.table_circuits.proofs.channels.count_columns.Given as goal

abbrev pub invariant-loop-k : goal.invariant-loop-k
invariant-loop-k l = l.count + sum_by columns_of (map st_tree (drop l.k l.layouts)) ≡ sum_by columns_of (map st_tree l.layouts)
