use Rattle.std.proofs.Common.{take}
use Rattle.ae_seq.specs.ProgramTree.{program_tree}
use Rattle.ae_eval.proofs.Answering.{Outputs}
use Rattle.ae_eval.proofs.program.outputs.Given as goal

abbrev pub invariant-loop-item : goal.invariant-loop-item
invariant-loop-item l = Outputs (program_tree l.p) l.func l.stack (take l.item-index l.item-items) l.found.items
