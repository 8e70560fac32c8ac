use Rattle.ae_seq.specs.ProgramTree.{program_tree}
use Rattle.ae_eval.specs.Lines.{input_types}
use Rattle.ae_jobs.proofs.EvalSteps.{CutOff}
use Rattle.ae_jobs.proofs.eval_job.row_values.Given as goal

abbrev pub invariant-loop-param : goal.invariant-loop-param
invariant-loop-param l = CutOff (input_types (program_tree l.p)) l.row l.param-index l.values.items l.rest
