use Rattle.std.proofs.Common.{◌≡◌, drop}
use Rattle.ae_seq.specs.Formed.{all_names, param_names}
use Rattle.ae_seq.specs.Trees.{param_trees}
use Rattle.ae_seq.proofs.formed.named_params.Given as goal

abbrev pub invariant-loop-param : goal.invariant-loop-param
invariant-loop-param l = all_names (param_names (param_trees (drop l.param-index l.params))) ≡ all_names (param_names (param_trees l.params))
