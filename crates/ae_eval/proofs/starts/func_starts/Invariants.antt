use Rattle.ae_seq.specs.ProgramTree.{program_tree}
use Rattle.ae_eval.specs.Stack.{types_in}
use Rattle.ae_eval.proofs.Starting.{Begun}
use Rattle.ae_eval.proofs.starts.func_starts.Given as goal

abbrev pub invariant-loop-item : goal.invariant-loop-item
invariant-loop-item l = Begun (types_in (program_tree l.p) l.func) l.item l.end l.found.items
