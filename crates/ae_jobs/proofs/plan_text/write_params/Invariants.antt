use Rattle.std.proofs.Common.{◌≡◌, ◌++◌, map, drop}
use Rattle.std.specs.Prelude.{string_bytes}
use Rattle.ae_seq.specs.ProgramTree.{param_tree}
use Rattle.ae_rewrite.specs.StProgramTree.{st_func_tree}
use Rattle.ae_rewrite.specs.Sound.{item_layouts}
use Rattle.ae_jobs.specs.PlanTexts.{param_item_lines}
use Rattle.ae_jobs.proofs.plan_text.write_params.Given as goal

abbrev pub invariant-loop-param : goal.invariant-loop-param
invariant-loop-param l =
    (string_bytes l.out ++ param_item_lines l.fn.line l.fn.arrivals (item_layouts (st_func_tree l.fn.instance)) l.item
    (map param_tree (drop l.param-index l.params))
    ≡ string_bytes l.fn.out ++ param_item_lines l.fn.line l.fn.arrivals (item_layouts (st_func_tree l.fn.instance)) 0 (map param_tree l.params))
    × (l.item ≡ l.param-index)
