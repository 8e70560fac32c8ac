use Rattle.std.proofs.Common.{◌≡◌, drop}
use Rattle.ae_seq.specs.ProgramTree.{func_tree}
use Rattle.ae_trace.specs.Traces.{are_movements}
use Rattle.ae_fuse.proofs.whole.all_move.Given as goal

abbrev pub invariant-loop-k : goal.invariant-loop-k
invariant-loop-k l = are_movements (func_tree l.f).nodes ≡ are_movements (drop l.k (func_tree l.f).nodes)
