use Rattle.std.proofs.Common.{◌∙◌, ◌++◌, ap, sym, take}
use Rattle.std.specs.List.{concat}
use Rattle.ae_eval.proofs.Answering.{concat-more}
use Rattle.ae_jobs.proofs.eval_job.joined.Goals as goal

pub loop-value-preserved : goal.loop-value-preserved
loop-value-preserved c =
    let words = c.deref.ensures.value ∙ c.value.view_is in
    let more = concat-more c.args.values.now c.loop-value.value-index c.value-item.result c.loop-value-test.true c.value-item.is in
    c.in_ok-extend_from_slice.ensures.items ∙ ap (λ ys. ys ++ c.deref.result.now) c.loop-value.invariant
    ∙ ap (λ ys. concat (take c.loop-value.value-index c.args.values.now) ++ ys) words ∙ sym more
