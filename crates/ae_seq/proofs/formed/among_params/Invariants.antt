use Rattle.std.proofs.Common.{◌≡◌, drop}
use Rattle.ae_seq.specs.Formed.{is_among, param_names}
use Rattle.ae_seq.specs.Trees.{param_trees}
use Rattle.ae_seq.proofs.formed.among_params.Given as goal

abbrev pub invariant-loop-param : goal.invariant-loop-param
invariant-loop-param l = is_among l.name (param_names (param_trees (drop l.param-index l.params))) ≡ is_among l.name (param_names (param_trees l.params))
