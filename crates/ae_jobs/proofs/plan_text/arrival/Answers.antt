use Rattle.std.proofs.Common.{sym}
use Rattle.std.proofs.lemmas.Option.{unwrap_or-slice_get}
use Rattle.ae_jobs.proofs.plan_text.arrival.Goals as goal

pub returns : goal.returns
returns c = sym (unwrap_or-slice_get c.args.arrivals.now c.args.item 0)
