use Rattle.std.proofs.Common.{◌≡◌, drop}
use Rattle.ae_seq.specs.Formed.{formed_params}
use Rattle.ae_seq.specs.Trees.{param_trees}
use Rattle.ae_seq.proofs.formed.formed_params.Given as goal

abbrev pub invariant-loop-param : goal.invariant-loop-param
invariant-loop-param l = formed_params l.version (param_trees (drop l.param-index l.params)) ≡ formed_params l.version (param_trees l.params)
