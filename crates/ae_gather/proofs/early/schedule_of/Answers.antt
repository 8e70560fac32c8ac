use Rattle.std.proofs.Common.{◌≡◌, map, arith}
use Rattle.ae_columns.specs.Early.{hastened}
use Rattle.ae_gather.proofs.Hastened.{column_hastened, delay_hastened, order_hastened, runs_hastened, within_hastened}
use Rattle.ae_gather.proofs.early.schedule_of.Goals as goal

pub planned-requires-clause-within : goal.planned-requires-clause-within
planned-requires-clause-within c =
    let moved : c.in_ok-moved.moved.items ≡ map (hastened c.args.early.items) c.args.trips.now = rw c.deref.ensures.value at c.in_ok-moved.ensures in
    rw c.deref-2.ensures.value (within_hastened _ _ _ _ _ _ _ moved c.requires.time c.requires.within)

pub planned-requires-clause-order : goal.planned-requires-clause-order
planned-requires-clause-order c =
    let moved : c.in_ok-moved.moved.items ≡ map (hastened c.args.early.items) c.args.trips.now = rw c.deref.ensures.value at c.in_ok-moved.ensures in
    rw c.deref-2.ensures.value (order_hastened _ _ _ moved c.requires.order)

pub returns-clause-runs : goal.returns-clause-runs
returns-clause-runs c =
    let moved : c.in_ok-moved.moved.items ≡ map (hastened c.args.early.items) c.args.trips.now = rw c.deref.ensures.value at c.in_ok-moved.ensures in
    let runs = rw (c.deref-2.ensures.value, moved) at c.in_ok-plan.ensures.runs in
    omega (arith, runs, runs_hastened c.args.d c.args.outs c.args.early.items c.args.trips.now)

pub returns-clause-delay : goal.returns-clause-delay
returns-clause-delay c =
    let moved : c.in_ok-moved.moved.items ≡ map (hastened c.args.early.items) c.args.trips.now = rw c.deref.ensures.value at c.in_ok-moved.ensures in
    let delay = rw (c.deref-2.ensures.value, moved) at c.in_ok-plan.ensures.delay in
    omega (arith, delay, delay_hastened c.args.d c.args.ins c.args.early.items c.args.trips.now)

pub returns-clause-ages : goal.returns-clause-ages
returns-clause-ages c =
    let moved : c.in_ok-moved.moved.items ≡ map (hastened c.args.early.items) c.args.trips.now = rw c.deref.ensures.value at c.in_ok-moved.ensures in
    let ages = rw (c.deref-2.ensures.value, moved) at c.in_ok-plan.ensures.ages in
    λ q all found. omega (arith, ages q all found, column_hastened c.args.d q c.args.early.items c.args.trips.now)
