use Rattle.std.proofs.Common.{◌≡◌, drop}
use Rattle.ae_seq.specs.Formed.{formed_funcs}
use Rattle.ae_seq.specs.Trees.{func_trees}
use Rattle.ae_seq.proofs.formed.formed_funcs.Given as goal

abbrev pub invariant-loop-i : goal.invariant-loop-i
invariant-loop-i l = formed_funcs l.version l.i (func_trees (drop l.i l.funcs)) ≡ formed_funcs l.version 0 (func_trees l.funcs)
