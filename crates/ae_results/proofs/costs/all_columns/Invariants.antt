use Rattle.std.proofs.Common.{◌≡◌, ℕ, ◌<◌, ◌≤◌, ◌*◌, Some, length, slice_get, sum_by, take}
use Rattle.ae_sttype.specs.Moves.{columns_of, first_column}
use Rattle.ae_rewrite.specs.StProgramTree.{st_trees}
use Rattle.ae_results.proofs.costs.all_columns.Given as goal

abbrev pub invariant-loop-layout : goal.invariant-loop-layout
invariant-loop-layout l = record {
  many : length l.firsts.items ≡ l.layout-index;
  each : (i : ℕ) → i < l.layout-index → slice_get l.firsts.items i ≡ Some (first_column (st_trees l.ins) i);
  all : l.count ≡ sum_by columns_of (take l.layout-index (st_trees l.ins));
  few : l.count ≤ l.layout-index * 16384;
}
