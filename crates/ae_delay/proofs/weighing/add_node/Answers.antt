use Rattle.std.proofs.Common.{◌≡◌, ◌≤◌, arith, refl}
use Rattle.ae_rewrite.specs.StProgramTree.{st_func_tree, st_node_tree}
use Rattle.ae_rewrite.specs.Sound.{item_layouts}
use Rattle.ae_delay.specs.Costs.{latest}
use Rattle.ae_delay.proofs.Nodes.{latest_le, next_node}
use Rattle.ae_delay.proofs.weighing.add_node.Goals as goal

pub overflow_add-start : goal.overflow_add-start
overflow_add-start c =
    let h = c.requires.progress.1 in
    let is : c.latest-start.result ≡ latest c.args.progress.now.arrivals.items c.args.node.now.args.items = rw (c.deref.ensures.value, c.deref-2.ensures.value)
    at c.latest-start.ensures in
    let early : latest c.args.progress.now.arrivals.items c.args.node.now.args.items ≤ c.args.progress.now.load = latest_le _ _ _ c.requires.arrived h.early in
    let own = rw c.in-Some.is at (c.in_ok-node_costs.ensures c.requires.known.0 c.requires.known.1) in
    omega (arith, is, early, h.within, c.requires.limit, own.1.latency, own.2)

pub returns-clause-advance : goal.returns-clause-advance
returns-clause-advance c = λ costs known.
    let h = c.requires.progress.1 in
    let is : c.latest-start.result ≡ latest c.args.progress.now.arrivals.items c.args.node.now.args.items = rw (c.deref.ensures.value, c.deref-2.ensures.value)
    at c.latest-start.ensures in
    let early : latest c.args.progress.now.arrivals.items c.args.node.now.args.items ≤ c.args.progress.now.load = latest_le _ _ _ c.requires.arrived h.early in
    let own = rw c.in-Some.is at (c.in_ok-node_costs.ensures costs known) in
    let slack = rw (c.deref-3.ensures.value, c.deref-4.ensures.value) at c.slack_load.ensures.load in
    let chains = rw (c.deref-5.ensures.value, c.deref-6.ensures.value) at c.deepen.ensures in
    next_node costs (item_layouts (st_func_tree c.args.s.now))
    (st_node_tree c.args.node.now) c.args.limit c.args.progress.now _ c.in-Some.own c.latest-start.result c.slack_load.result
    own.0 own.1 is slack (omega (arith, is, early)) c.in_ok-push.ensures.items chains c.in_ok-push-2.ensures.items refl refl refl c.if-sum-limit.false
