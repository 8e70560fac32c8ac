use Rattle.std.proofs.Common.{◌≡◌, ◌+◌, ◌*◌, ◌/◌, List, ℕ, length, refl, arith, ◌∙◌}
use Rattle.std.specs.Prelude.{string_bytes}
use Rattle.std.proofs.lemmas.Result.{IfOk-weaker}
use Rattle.ae_jobs.specs.declared.reply.Reply.{Reply}
use Rattle.ae_jobs.specs.declared.status.Status.TheVariants.{LongRun}
use Rattle.ae_jobs.specs.Refusals.{refusal_line}
use Rattle.ae_jobs.specs.SimPlaying.{AreSimRows, IsNetSim}
use Rattle.ae_jobs.proofs.SimRows.{long_run, short_run, size_fits}
use Rattle.ae_jobs.proofs.sim_job.run_rows.Goals as goal

pub overflow_mul-size : goal.overflow_mul-size
overflow_mul-size c =
    let s = size_fits c.args.nl.now.cells c.args.columns c.requires.rows.0 c.args.words.now c.from.result c.requires.rows.1 (omega arith) in
    omega (arith, s)

pub returns-then-size-gt-RUN_LIMIT : goal.returns-then-size-gt-RUN_LIMIT
returns-then-size-gt-RUN_LIMIT c =
    let n = c.args.nl.now in
    let ws = c.args.words.now in
    let size : ℕ = length ws / c.args.columns * (1 + c.from.result) in
    IfOk-weaker c.refused.result (λ (r : Reply). (r.status ≡ LongRun size) × (string_bytes r.text ≡ refusal_line (LongRun size)))
    (λ (r : Reply). (table : List (List (List ℕ))) → AreSimRows n.cells c.args.columns table ws → IsNetSim c.args.fill n table r.status (string_bytes r.text))
    (λ r w table a. long_run c.args.fill n c.args.columns table ws c.from.result size r.status (string_bytes r.text) a
    (c.from.ensures ∙ c.outputs.ensures) refl c.if-size-gt-RUN_LIMIT.true w.0 w.1) c.refused.ensures

pub returns : goal.returns
returns c = λ table a.
    let ws = c.args.words.now in
    let size : ℕ = length ws / c.args.columns * (1 + c.from.result) in
    short_run c.args.fill c.args.nl.now c.args.columns table ws c.from.result size (string_bytes c.in_ok-text.text) a
    (c.from.ensures ∙ c.outputs.ensures) refl c.if-size-gt-RUN_LIMIT.false (c.in_ok-text.ensures table a)
