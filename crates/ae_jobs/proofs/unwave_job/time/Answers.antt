use Rattle.std.proofs.Common.{◌∙◌, sym}
use Rattle.std.proofs.lemmas.List.{get_or_read}
use Rattle.std.proofs.lemmas.Option.{unwrap_or-slice_get}
use Rattle.ae_jobs.proofs.unwave_job.time.Goals as goal

pub returns : goal.returns
returns c =
    get_or_read c.args.w.now.times.items c.args.i c.index.result.now c.requires c.index.ensures 0
    ∙ sym (unwrap_or-slice_get c.args.w.now.times.items c.args.i 0)
