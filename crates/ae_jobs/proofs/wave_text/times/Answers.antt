use Rattle.std.proofs.Common.{◌∷◌, ◌++◌, [], ap, sym, ◌∙◌}
use Rattle.ae_layout.proofs.PieceLemmas.{until_more}
use Rattle.ae_jobs.proofs.wave_text.times.Goals as goal

pub loop-time-preserved : goal.loop-time-preserved
loop-time-preserved c = c.in_ok-push.ensures.items ∙ ap (λ ts. ts ++ c.loop-time.time ∷ []) c.loop-time.invariant ∙ sym (until_more c.loop-time.time)
