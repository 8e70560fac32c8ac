use Rattle.std.proofs.Common.{◌≡◌, ◌++◌, drop}
use Rattle.std.specs.Prelude.{string_bytes, flat_map}
use Rattle.ae_rewrite.specs.StProgramTree.{st_func_tree}
use Rattle.ae_rewrite.specs.Sound.{item_layouts}
use Rattle.ae_jobs.specs.PlanTexts.{result_line}
use Rattle.ae_jobs.proofs.plan_text.write_results.Given as goal

abbrev pub invariant-loop-item : goal.invariant-loop-item
invariant-loop-item l =
    string_bytes l.out ++ flat_map (result_line l.fn.line l.fn.arrivals (item_layouts (st_func_tree l.fn.instance))) (drop l.item-index l.results)
    ≡ string_bytes l.fn.out ++ flat_map (result_line l.fn.line l.fn.arrivals (item_layouts (st_func_tree l.fn.instance))) l.results
