use Rattle.std.proofs.Common.{◌≡◌, ◌++◌, drop, map}
use Rattle.std.specs.String.{string_bytes}
use Rattle.ae_seq.specs.Trees.{param_trees}
use Rattle.ae_print.specs.Printed.{param_field, spaced}
use Rattle.ae_print.proofs.printer.put_params.Given as goal

abbrev pub invariant-loop-param : goal.invariant-loop-param
invariant-loop-param l =
    string_bytes l.out ++ spaced (map param_field (param_trees (drop l.param-index l.params))) ≡ string_bytes l.initial.out
    ++ spaced (map param_field (param_trees l.params))
