use Rattle.std.proofs.Common.{◌≡◌, ◌++◌, map, drop}
use Rattle.std.specs.Prelude.{string_bytes, flat_map}
use Rattle.ae_seq.specs.ProgramTree.{param_tree}
use Rattle.ae_jobs.specs.CheckTexts.{param_text}
use Rattle.ae_jobs.proofs.check_text.write_params.Given as goal

abbrev pub invariant-loop-param : goal.invariant-loop-param
invariant-loop-param l =
    string_bytes l.out ++ flat_map param_text (map param_tree (drop l.param-index l.params)) ≡ string_bytes l.fn.out
    ++ flat_map param_text (map param_tree l.params)
