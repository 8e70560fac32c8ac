use Rattle.std.proofs.Common.{◌++◌, ap, ◌∙◌}
use Rattle.std.specs.Prelude.{string_bytes}
use Rattle.ae_vcd.specs.Waves.{wave_tree, wave_word}
use Rattle.ae_jobs.proofs.UnwaveLines.{row_more}
use Rattle.ae_jobs.proofs.unwave_job.write_row.Goals as goal

pub loop-k-preserved : goal.loop-k-preserved
loop-k-preserved c =
    row_more (wave_word (wave_tree c.args.w.now) c.args.i) c.loop-k.k c.word.result (string_bytes c.args.out.now) (string_bytes c.loop-k.out)
    (string_bytes c.push_str.new.self) (string_bytes c.push_str-in-loop-k.new.self)
    c.word.ensures c.loop-k.invariant c.in_ok-push_str.ensures.bytes
    (c.in_ok-push_str-2.ensures.bytes ∙ ap (λ x. string_bytes c.push_str.new.self ++ x) c.format.ensures.text)
