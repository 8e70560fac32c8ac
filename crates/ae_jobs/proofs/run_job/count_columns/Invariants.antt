use Rattle.std.proofs.Common.{◌≡◌, ◌≤◌, ◌+◌, ◌*◌, map, drop}
use Rattle.std.specs.Prelude.{sum_by}
use Rattle.ae_sttype.specs.StTree.{st_tree}
use Rattle.ae_sttype.specs.Moves.{columns_of}
use Rattle.ae_jobs.proofs.run_job.count_columns.Given as goal

abbrev pub invariant-loop-layout : goal.invariant-loop-layout
invariant-loop-layout l =
    (l.count + sum_by columns_of (map st_tree (drop l.layout-index l.layouts)) ≡ sum_by columns_of (map st_tree l.layouts)) × (l.count ≤ l.layout-index * 16384)
