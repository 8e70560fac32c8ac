use Rattle.std.proofs.Common.{arith}
use Rattle.ae_order.proofs.GraphWalks.{walk_ends}
use Rattle.ae_order.proofs.sort.order.Goals as goal

pub returns-clause-order : goal.returns-clause-order
returns-clause-order c =
    let w = c.loop-root.invariant.walk in
    let long = w.long in
    let out = c.loop-root-test.false in
    walk_ends c.args.starts.now c.args.targets.now c.requires.graph c.loop-root.marks.items c.loop-root.order.items w
    (λ a l. c.loop-root.invariant.begun a (omega arith))
