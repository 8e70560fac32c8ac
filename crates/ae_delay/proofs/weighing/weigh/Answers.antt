use Rattle.std.proofs.Common.{List, length, subst}
use Rattle.std.proofs.lemmas.Option.{slice_get_within}
use Rattle.std.proofs.lemmas.Result.{IfOk-weaker}
use Rattle.ae_rewrite.specs.StProgramTree.{st_func_tree, st_node_tree}
use Rattle.ae_delay.specs.Costs.{NodeTiming}
use Rattle.ae_delay.specs.Weighing.{IsWeighed}
use Rattle.ae_delay.proofs.Instances.{all_items, args_arrived, arrivals_whole, node_here, node_sound, over_at, progress_more, timings_all}
use Rattle.ae_delay.proofs.Meeting.{all_arrived, meets_more, met_all}
use Rattle.ae_delay.proofs.weighing.weigh.Goals as goal

pub loop-node-init : goal.loop-node-init
loop-node-init c = record {
  nodes = c.deref-node-items.ensures.value;
  progress = λ costs known. c.in_ok-progress.ensures.progress c.args.limit;
  meets = c.in_ok-progress.ensures.meets;
}

pub add_node-requires-clause-items : goal.add_node-requires-clause-items
add_node-requires-clause-items c = all_items (length c.args.known.now) (st_func_tree c.args.s.now) c.requires.sound

pub add_node-requires-clause-sound : goal.add_node-requires-clause-sound
add_node-requires-clause-sound c =
    let at = node_here c.args.s.now c.deref-node-items.result.now c.loop-node.node-index c.node-item.result c.deref-node-items.ensures.value
    c.loop-node-test.true c.node-item.is in
    node_sound (length c.args.known.now) (st_func_tree c.args.s.now) c.loop-node.node-index (st_node_tree c.node-item.result) c.requires.sound at

pub add_node-requires-clause-arrived : goal.add_node-requires-clause-arrived
add_node-requires-clause-arrived c =
    let at = node_here c.args.s.now c.deref-node-items.result.now c.loop-node.node-index c.node-item.result c.deref-node-items.ensures.value
    c.loop-node-test.true c.node-item.is in
    args_arrived c.requires.known.0 (length c.args.known.now) (st_func_tree c.args.s.now) c.loop-node.node-index c.args.limit
    (st_node_tree c.node-item.result) c.loop-node.progress c.requires.sound at (c.loop-node.invariant.progress c.requires.known.0 c.requires.known.1)

pub returns-in-Some-clause-weighed : goal.returns-in-Some-clause-weighed
returns-in-Some-clause-weighed c = λ costs known.
    let at = node_here c.args.s.now c.deref-node-items.result.now c.loop-node.node-index c.node-item.result c.deref-node-items.ensures.value
    c.loop-node-test.true c.node-item.is in
    let over = rw c.in-Some.is at (c.in_ok-add_node.ensures.advance costs known) in
    over_at costs (st_func_tree c.args.s.now) c.loop-node.node-index c.args.limit c.in-Some.load (st_node_tree c.node-item.result) c.loop-node.progress at
    (c.loop-node.invariant.progress costs known) over.0 over.1

pub loop-node-preserved : goal.loop-node-preserved
loop-node-preserved c = record {
  nodes = c.deref-node-items.ensures.value;
  progress = λ costs known.
      let at = node_here c.args.s.now c.deref-node-items.result.now c.loop-node.node-index c.node-item.result c.deref-node-items.ensures.value
      c.loop-node-test.true c.node-item.is in
      let next = rw c.in-None.is at (c.in_ok-add_node.ensures.advance costs known) in
      progress_more costs (length c.args.known.now) (st_func_tree c.args.s.now) c.loop-node.node-index c.args.limit
      (st_node_tree c.node-item.result) c.loop-node.progress c.add_node.new.progress c.requires.sound at (c.loop-node.invariant.progress costs known) next;
  meets =
      let at = node_here c.args.s.now c.deref-node-items.result.now c.loop-node.node-index c.node-item.result c.deref-node-items.ensures.value
      c.loop-node-test.true c.node-item.is in
      let costs = c.requires.known.0 in
      let so_far = c.loop-node.invariant.progress costs c.requires.known.1 in
      let next = rw c.in-None.is at (c.in_ok-add_node.ensures.advance costs c.requires.known.1) in
      let arrived = all_arrived costs (length c.args.known.now) (st_func_tree c.args.s.now) c.loop-node.node-index c.args.limit c.loop-node.progress
      c.requires.sound (slice_get_within (st_func_tree c.args.s.now).nodes c.loop-node.node-index (st_node_tree c.node-item.result) at) so_far in
      meets_more (st_func_tree c.args.s.now).nodes c.loop-node.node-index _ (st_node_tree c.node-item.result) c.loop-node.progress.arrivals.items
      c.add_node.new.progress.arrivals.items c.loop-node.progress.meets.items c.add_node.new.progress.meets.items at arrived
      next.arrivals c.loop-node.invariant.meets (c.in_ok-add_node.ensures.meets c.in-None.is);
}

pub finish-requires-clause-items : goal.finish-requires-clause-items
finish-requires-clause-items c = all_items (length c.args.known.now) (st_func_tree c.args.s.now) c.requires.sound

pub finish-requires-clause-whole : goal.finish-requires-clause-whole
finish-requires-clause-whole c =
    arrivals_whole c.requires.known.0 c.args.s.now c.deref-node-items.result.now c.loop-node.node-index c.args.limit c.loop-node.progress
    c.deref-node-items.ensures.value c.loop-node-test.false c.loop-node.auto.node-index-end
    (c.loop-node.invariant.progress c.requires.known.0 c.requires.known.1)

pub returns-clause-weighed : goal.returns-clause-weighed
returns-clause-weighed c =
    IfOk-weaker c.finish.result _ _ (λ w weighed costs known.
    subst (λ (ts : List NodeTiming). IsWeighed (st_func_tree c.args.s.now) ts c.args.limit w)
    (timings_all costs c.args.s.now c.deref-node-items.result.now c.loop-node.node-index c.deref-node-items.ensures.value c.loop-node-test.false)
    (weighed _ (c.loop-node.invariant.progress costs known))) c.finish.ensures.weighed

pub returns-clause-meets : goal.returns-clause-meets
returns-clause-meets c =
    IfOk-weaker c.finish.result _ _ (λ w met.
    met_all c.args.s.now c.deref-node-items.result.now c.loop-node.node-index c.loop-node.progress w c.deref-node-items.ensures.value c.loop-node-test.false
    c.loop-node.invariant.meets met) c.finish.ensures.meets
