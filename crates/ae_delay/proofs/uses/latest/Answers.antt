use Rattle.ae_delay.proofs.UseLaws.{latest_next}
use Rattle.ae_delay.proofs.uses.latest.Goals as goal

pub loop-item-preserved : goal.loop-item-preserved
loop-item-preserved c =
    latest_next c.args.arrivals.now c.args.items.now c.loop-item.item-index c.loop-item.most c.max-most.result c.loop-item-test.true c.loop-item.invariant
    c.max-most.ensures
