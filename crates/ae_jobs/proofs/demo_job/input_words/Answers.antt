use Rattle.std.proofs.Common.{◌++◌, ◌∷◌, [], sym, ◌∙◌}
use Rattle.ae_jobs.proofs.Demos.{words_more}
use Rattle.ae_jobs.proofs.demo_job.input_words.Goals as goal

pub loop-k-preserved : goal.loop-k-preserved
loop-k-preserved c =
    c.in_ok-push.ensures.items
    ∙ (λ i. c.loop-k.invariant i ++ c.from.ensures i ∷ [])
    ∙ sym (words_more c.args.size c.loop-k.k)
