use Rattle.ae_seq.specs.ProgramTree.{program_tree}
use Rattle.ae_jobs.proofs.EvalSteps.{Counted}
use Rattle.ae_jobs.proofs.eval_job.count_results.Given as goal

abbrev pub invariant-loop-item : goal.invariant-loop-item
invariant-loop-item l = Counted (program_tree l.p) l.last l.item-items l.item-index l.count
