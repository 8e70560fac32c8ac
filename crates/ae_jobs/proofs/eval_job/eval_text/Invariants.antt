use Rattle.std.proofs.Common.{List, ℕ}
use Rattle.std.specs.Prelude.{string_bytes}
use Rattle.ae_seq.specs.ProgramTree.{program_tree}
use Rattle.ae_jobs.specs.EvalRows.{AreRows}
use Rattle.ae_jobs.proofs.EvalSteps.{LinesDone}
use Rattle.ae_jobs.proofs.eval_job.eval_text.Given as goal

abbrev pub invariant-loop : goal.invariant-loop
invariant-loop l =
    (table : List (List (List ℕ))) → AreRows (program_tree l.fn.p) l.fn.columns table l.fn.words
    → LinesDone (program_tree l.fn.p) table l.counter l.rest (string_bytes l.out)
