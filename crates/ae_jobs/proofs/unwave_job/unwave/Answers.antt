use Rattle.std.proofs.Common.{rules, ◌≡◌, ℕ}
use Rattle.std.specs.Prelude.{string_bytes}
use Rattle.std.proofs.lemmas.Result.{IfOk-weaker}
use Rattle.ae_vcd.specs.Waves.{WaveTree, wave_tree}
use Rattle.ae_vcd.specs.TextWords.{text_words}
use Rattle.ae_jobs.specs.declared.reply.Reply.{Reply}
use Rattle.ae_jobs.specs.declared.status.Status.TheVariants.{BadWave, LongRun}
use Rattle.ae_jobs.specs.Refusals.{refusal_line}
use Rattle.ae_jobs.specs.UnwaveTexts.{IsNoDump, IsUnwaved}
use Rattle.ae_jobs.proofs.UnwaveLines.{unwaved_by}
use Rattle.ae_jobs.proofs.unwave_job.unwave.Goals as goal

pub returns-in_ok-text-in-Ok : goal.returns-in_ok-text-in-Ok
returns-in_ok-text-in-Ok c =
    let w : WaveTree = wave_tree c.in-Ok.w in
    let dump = c.in-Ok.ensures.wave in
    (w, record { dump = dump.0; only = λ v h. c.waves_are_one.ensures c.args.part.now v w h dump.0 }, dump.1.small, c.in_ok-text-in-Ok.ensures)

pub returns-in-Err-BadWord : goal.returns-in-Err-BadWord
returns-in-Err-BadWord c =
    let at : ℕ = c.in-Err-BadWord.at in
    let bad = c.in-Err-BadWord.ensures.bad at (search rules) in
    let judged = c.words_are_judged.ensures (text_words c.args.part.now) in
    let none : IsNoDump c.args.part.now at = record { bad = bad; first = λ k h. judged.one k at h bad; none = λ w v. judged.not_both at v.dump bad } in
    IfOk-weaker c.refused.result (λ (r : Reply). (r.status ≡ BadWave at) × (string_bytes r.text ≡ refusal_line (BadWave at)))
    (λ (r : Reply). IsUnwaved c.args.part.now r.status (string_bytes r.text))
    (λ r w. unwaved_by c.args.part.now r.status (BadWave at) (string_bytes r.text) w.0 (none, w.1)) c.refused.ensures

pub returns-in-Err-Large : goal.returns-in-Err-Large
returns-in-Err-Large c =
    let size : ℕ = c.in-Err-Large.size in
    let large = c.in-Err-Large.ensures.large size (search rules) in
    IfOk-weaker c.refused-in-Err-Large.result (λ (r : Reply). (r.status ≡ LongRun size) × (string_bytes r.text ≡ refusal_line (LongRun size)))
    (λ (r : Reply). IsUnwaved c.args.part.now r.status (string_bytes r.text))
    (λ r w. unwaved_by c.args.part.now r.status (LongRun size) (string_bytes r.text) w.0
    (large.0, record { dump = large.1; only = λ v h. c.waves_are_one.ensures c.args.part.now v large.0 h large.1 }, large.3, large.2, w.1))
    c.refused-in-Err-Large.ensures
