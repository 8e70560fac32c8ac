use Rattle.ae_seq.specs.ProgramTree.{program_tree}
use Rattle.ae_eval.specs.Lines.{input_types}
use Rattle.ae_eval.proofs.Answering.{Fitting}
use Rattle.ae_eval.proofs.program.fits.Given as goal

abbrev pub invariant-loop-index : goal.invariant-loop-index
invariant-loop-index l = Fitting (input_types (program_tree l.p)) l.inputs l.index
