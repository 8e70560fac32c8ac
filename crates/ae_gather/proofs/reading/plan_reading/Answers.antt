-- The trips from what is read, and those of places.
use Rattle.std.proofs.Common.{length, refl}
use Rattle.ae_columns.specs.Plans.{AreWithin}
use Rattle.ae_gather.proofs.Rereads.{order_placed, order_read, within_placed, within_read}
use Rattle.ae_gather.proofs.reading.plan_reading.Goals as goal

pub scheduled-requires-clause-within : goal.scheduled-requires-clause-within
scheduled-requires-clause-within c =
    let within : AreWithin 4096 c.args.d (length c.in_ok-reads.reads.rings.items) c.args.outs c.args.trips.now = rw c.in_ok-reads.ensures.rings
    c.requires.within in
    rw (c.deref.ensures.value, ← c.in_ok-reads.ensures.rings)
    (within_read 4096 c.args.d c.args.outs c.in_ok-reads.reads c.args.trips.now c.in_ok-moved.moved.items c.in_ok-moved.ensures within)

pub scheduled-requires-clause-order : goal.scheduled-requires-clause-order
scheduled-requires-clause-order c =
    rw c.deref.ensures.value (order_read c.args.d c.in_ok-reads.reads c.args.trips.now c.in_ok-moved.moved.items c.in_ok-moved.ensures c.requires.order)

pub planned-requires-clause-within : goal.planned-requires-clause-within
planned-requires-clause-within c =
    rw c.deref-2.ensures.value (within_placed 4096 c.args.d
    (length c.args.trips.now) c.args.ins c.args.outs c.in_ok-reads.reads c.args.trips.now c.in_ok-places.places.items refl c.in_ok-places.ensures
    c.requires.within)

pub planned-requires-clause-order : goal.planned-requires-clause-order
planned-requires-clause-order c =
    rw c.deref-2.ensures.value (order_placed c.args.d (length c.args.trips.now) c.in_ok-reads.reads c.args.trips.now c.in_ok-places.places.items refl
    c.in_ok-places.ensures c.requires.order)
