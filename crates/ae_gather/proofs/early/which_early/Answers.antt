use Rattle.ae_columns.proofs.Earliness.{in_time}
use Rattle.ae_gather.proofs.early.which_early.Goals as goal

pub returns-clause-time : goal.returns-clause-time
returns-clause-time c =
    in_time _ _ _ _ c.args.trips.now c.in_ok-plan.plan.lines.items c.in_ok-plan.plan.columns.items c.in_ok-early.early.items c.requires.within
    c.in_ok-plan.ensures.plan c.in_ok-plan.ensures.columns (rw c.deref.ensures.value at c.in_ok-early.ensures.late)
