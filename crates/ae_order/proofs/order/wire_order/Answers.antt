use Rattle.std.proofs.Common.{arith}
use Rattle.ae_vmodule.specs.View.{module_tree}
use Rattle.ae_order.proofs.Answered.{ok_map}
use Rattle.ae_order.proofs.FlatLaws.{flat_graph}
use Rattle.ae_order.proofs.DriveLaws.{values_long, targets_inside, loop_of, order_is, no_loop_of, fault_is, on_ok_from, err_map}
use Rattle.ae_order.proofs.order.wire_order.Goals as goal

pub order-requires-clause-graph : goal.order-requires-clause-graph
order-requires-clause-graph c =
    let m = module_tree c.args.m.now in
    let flat = c.in-Ok.ensures in
    rw (c.deref.ensures.value, c.deref-in-Ok.ensures.value)
    (flat_graph m.nets _ _ _ flat (targets_inside m c.requires.regular c.requires.shape _ _ flat))

pub order-requires-clause-few : goal.order-requires-clause-few
order-requires-clause-few c =
    let m = module_tree c.args.m.now in
    let flat = c.in-Ok.ensures in
    let n = flat.long in
    let k = values_long m c.requires.regular c.requires.shape in
    let few = c.requires.shape.few_nets in
    rw c.deref.ensures.value (omega arith)

pub returns-in-Ok-clause-order : goal.returns-in-Ok-clause-order
returns-in-Ok-clause-order c =
    let m = module_tree c.args.m.now in
    ok_map c.order.result
    (λ y o. order_is m c.requires.regular c.requires.shape _ _ c.in-Ok.ensures _ (rw (c.deref.ensures.value, c.deref-in-Ok.ensures.value) at o))
    c.order.ensures.order

pub returns-in-Ok-clause-no_loop : goal.returns-in-Ok-clause-no_loop
returns-in-Ok-clause-no_loop c =
    let m = module_tree c.args.m.now in
    on_ok_from c.order.result
    (λ y o. no_loop_of m c.requires.regular c.requires.shape _ _ c.in-Ok.ensures _ (rw (c.deref.ensures.value, c.deref-in-Ok.ensures.value) at o))
    c.order.ensures.order

pub returns-in-Ok-clause-fault : goal.returns-in-Ok-clause-fault
returns-in-Ok-clause-fault c =
    let m = module_tree c.args.m.now in
    err_map c.order.result
    (λ f h. fault_is m _ _ (loop_of m c.requires.regular c.requires.shape _ _ c.in-Ok.ensures) f
    (rw (c.deref.ensures.value, c.deref-in-Ok.ensures.value) at h))
    c.order.ensures.fault
