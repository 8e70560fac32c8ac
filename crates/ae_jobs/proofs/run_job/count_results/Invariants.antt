use Rattle.std.proofs.Common.{◌≡◌, ◌≤◌, ◌*◌, map, take}
use Rattle.std.specs.Prelude.{sum_by}
use Rattle.ae_sttype.specs.Moves.{columns_of}
use Rattle.ae_rewrite.specs.StProgramTree.{st_func_tree}
use Rattle.ae_rewrite.specs.Sound.{item_layout, item_layouts}
use Rattle.ae_jobs.proofs.run_job.count_results.Given as goal

abbrev pub invariant-loop-item : goal.invariant-loop-item
invariant-loop-item l = record {
  items : l.item-items ≡ l.s.results.items;
  count : l.count ≡ sum_by columns_of (map (item_layout (item_layouts (st_func_tree l.s))) (take l.item-index l.item-items));
  few : l.count ≤ l.item-index * 16384;
}
