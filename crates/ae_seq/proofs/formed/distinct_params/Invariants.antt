use Rattle.std.proofs.Common.{◌≡◌, drop}
use Rattle.ae_seq.specs.Formed.{all_distinct, param_names}
use Rattle.ae_seq.specs.Trees.{param_trees}
use Rattle.ae_seq.proofs.formed.distinct_params.Given as goal

abbrev pub invariant-loop-i : goal.invariant-loop-i
invariant-loop-i l = all_distinct (param_names (param_trees (drop l.i l.params))) ≡ all_distinct (param_names (param_trees l.params))
