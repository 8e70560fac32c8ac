-- Columns are chosen early, or none is.
use Rattle.std.proofs.Common.{◌≡◌, arith}
use Rattle.ae_columns.specs.Counts.{early_count}
use Rattle.ae_columns.proofs.Counted.{none_count}
use Rattle.ae_columns.proofs.Earliness.{none_in_time}
use Rattle.ae_gather.proofs.early.scheduled.Goals as goal

pub schedule_of-requires-clause-time : goal.schedule_of-requires-clause-time
schedule_of-requires-clause-time c = c.in_ok-early.ensures.time

pub schedule_of-requires-2-clause-time : goal.schedule_of-requires-2-clause-time
schedule_of-requires-2-clause-time c = none_in_time _ _ _ _ _ _ c.requires.within c.in_ok-none.ensures.none

pub returns-clause-spare : goal.returns-clause-spare
returns-clause-spare c = λ some.
    let none = none_count c.in_ok-none.none.items c.in_ok-none.ensures.none in
    let same : early_count c.in_ok-plain.plain.early.items ≡ 0 = rw c.in_ok-plain.ensures.same none in
    absurd (omega (arith, some, same))
