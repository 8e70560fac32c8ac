use Rattle.std.proofs.Common.{◌≡◌, ◌+◌, ◌*◌, ◌/◌, List, ℕ, length, refl, arith}
use Rattle.std.specs.Prelude.{string_bytes}
use Rattle.std.proofs.lemmas.Result.{IfOk-weaker}
use Rattle.ae_seq.specs.ProgramTree.{program_tree}
use Rattle.ae_jobs.specs.declared.reply.Reply.{Reply}
use Rattle.ae_jobs.specs.declared.status.Status.TheVariants.{LongRun}
use Rattle.ae_jobs.specs.Refusals.{refusal_line}
use Rattle.ae_jobs.specs.EvalRows.{AreRows}
use Rattle.ae_jobs.specs.EvalTexts.{IsEvalOf}
use Rattle.ae_jobs.proofs.EvalSteps.{column_some, long_run, short_run, size_fits}
use Rattle.ae_jobs.proofs.eval_job.eval_rows.Goals as goal

pub nonzero_div-count : goal.nonzero_div-count
nonzero_div-count c = column_some (program_tree c.args.p.now) c.args.columns c.requires.rows.0 c.args.words.now c.requires.typed c.requires.rows.1

pub overflow_mul-size : goal.overflow_mul-size
overflow_mul-size c =
    let s = size_fits (program_tree c.args.p.now) c.args.columns c.requires.rows.0 c.args.words.now c.count_results.result c.requires.typed c.requires.rows.1
    c.count_results.ensures.few in
    omega (arith, s)

pub returns-then-size-gt-RUN_LIMIT : goal.returns-then-size-gt-RUN_LIMIT
returns-then-size-gt-RUN_LIMIT c =
    let p = program_tree c.args.p.now in
    let ws = c.args.words.now in
    let size : ℕ = length ws / c.args.columns * (1 + c.count_results.result) in
    IfOk-weaker c.refused.result (λ (r : Reply). (r.status ≡ LongRun size) × (string_bytes r.text ≡ refusal_line (LongRun size)))
    (λ (r : Reply). (table : List (List (List ℕ))) → AreRows p c.args.columns table ws → IsEvalOf p table r.status (string_bytes r.text))
    (λ r w table a. long_run p c.args.columns table ws c.count_results.result size r.status
    (string_bytes r.text) c.requires.typed a c.count_results.ensures.is refl c.if-size-gt-RUN_LIMIT.true w.0 w.1) c.refused.ensures

pub returns : goal.returns
returns c = λ table a.
    let p = program_tree c.args.p.now in
    let ws = c.args.words.now in
    let size : ℕ = length ws / c.args.columns * (1 + c.count_results.result) in
    short_run p c.args.columns table ws c.count_results.result size
    (string_bytes c.in_ok-text.text) c.requires.typed a c.count_results.ensures.is refl c.if-size-gt-RUN_LIMIT.false (c.in_ok-text.ensures table a)
