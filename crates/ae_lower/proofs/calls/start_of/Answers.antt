use Rattle.std.proofs.Common.{length, get_or, arith}
use Rattle.std.proofs.lemmas.Option.{slice_get-get_or}
use Rattle.ae_lower.proofs.Costing.{none_wait, some_wait, wait_at, waits_long}
use Rattle.ae_lower.proofs.calls.start_of.Goals as goal

pub returns-then-is_empty : goal.returns-then-is_empty
returns-then-is_empty c = none_wait c.is_empty.result c.args.arrivals.now c.args.items.now c.is_empty.ensures c.if-is_empty.true

pub bounds-items-0 : goal.bounds-items-0
bounds-items-0 c = some_wait c.is_empty.result (length c.args.items.now) c.is_empty.ensures c.if-is_empty.false

pub bounds-arrivals-items : goal.bounds-arrivals-items
bounds-arrivals-items c =
    let some = some_wait c.is_empty.result (length c.args.items.now) c.is_empty.ensures c.if-is_empty.false in
    c.requires.below 0 (get_or c.args.items.now 0 0) (slice_get-get_or c.args.items.now 0 0 some)

pub bounds-waits-0 : goal.bounds-waits-0
bounds-waits-0 c =
    let some = some_wait c.is_empty.result (length c.args.items.now) c.is_empty.ensures c.if-is_empty.false in
    omega (arith, some, waits_long c.args.arrivals.now c.args.items.now c.args.waits.now c.requires.waits)

pub overflow_add-result : goal.overflow_add-result
overflow_add-result c =
    let some = some_wait c.is_empty.result (length c.args.items.now) c.is_empty.ensures c.if-is_empty.false in
    let whole = wait_at c.args.arrivals.now c.args.items.now c.args.waits.now 0 (get_or c.args.items.now 0 0) c.requires.waits
    (slice_get-get_or c.args.items.now 0 0 some) in
    omega (arith, whole, c.requires.early)

pub returns : goal.returns
returns c =
    let some = some_wait c.is_empty.result (length c.args.items.now) c.is_empty.ensures c.if-is_empty.false in
    wait_at c.args.arrivals.now c.args.items.now c.args.waits.now 0 (get_or c.args.items.now 0 0) c.requires.waits (slice_get-get_or c.args.items.now 0 0 some)
