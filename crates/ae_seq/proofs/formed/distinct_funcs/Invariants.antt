use Rattle.std.proofs.Common.{◌≡◌, drop}
use Rattle.ae_seq.specs.Formed.{all_distinct, func_names}
use Rattle.ae_seq.specs.Trees.{func_trees}
use Rattle.ae_seq.proofs.formed.distinct_funcs.Given as goal

abbrev pub invariant-loop-i : goal.invariant-loop-i
invariant-loop-i l = all_distinct (func_names (func_trees (drop l.i l.funcs))) ≡ all_distinct (func_names (func_trees l.funcs))
