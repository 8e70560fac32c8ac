use Rattle.std.proofs.Common.{◌≡◌, ◌++◌, map, drop}
use Rattle.ae_seq.specs.ProgramTree.{ParamTree, param_tree}
use Rattle.ae_jobs.specs.Inputs.{widths_of}
use Rattle.ae_jobs.proofs.widths.push_all.Given as goal

abbrev pub invariant-loop-param : goal.invariant-loop-param
invariant-loop-param l =
    l.widths.items ++ widths_of (map (λ (p : ParamTree). p.type) (map param_tree (drop l.param-index l.params))) ≡ l.initial.widths.items
    ++ widths_of (map (λ (p : ParamTree). p.type) (map param_tree l.params))
