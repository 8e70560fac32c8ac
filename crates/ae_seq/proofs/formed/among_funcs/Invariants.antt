use Rattle.std.proofs.Common.{◌≡◌, drop}
use Rattle.ae_seq.specs.Formed.{is_among, func_names}
use Rattle.ae_seq.specs.Trees.{func_trees}
use Rattle.ae_seq.proofs.formed.among_funcs.Given as goal

abbrev pub invariant-loop-func : goal.invariant-loop-func
invariant-loop-func l = is_among l.name (func_names (func_trees (drop l.func-index l.funcs))) ≡ is_among l.name (func_names (func_trees l.funcs))
