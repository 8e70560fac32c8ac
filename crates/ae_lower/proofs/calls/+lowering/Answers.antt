-- Instances one above the other: the answers of a few lines; longer ones stand beside them, by function.
mod Instance
mod Node
use Rattle.std.proofs.Common.{◌≡◌, ◌+◌, ◌-◌, ◌<◌, ◌≤◌, take, slice_get, get_or, arith, ap, sym, ◌∙◌, subst, length, ℕ}
use Rattle.std.proofs.lemmas.List.{length-map}
use Rattle.std.proofs.lemmas.Option.{slice_get_within}
use Rattle.ae_clocked.proofs.InRow.{keeps_trans}
use Rattle.ae_rewrite.specs.StProgramTree.{st_func_tree, st_node_tree}
use Rattle.ae_delay.specs.Costs.{latest}
use Rattle.ae_retime.specs.Slacks.{joint_slacks}
use Rattle.ae_flow.specs.Flow.{callees}
use Rattle.ae_lower.specs.Lowering.{arrivals_in, instance_costs, instances_of}
use Rattle.ae_lower.proofs.Growing.{keeps_none, room_behind}
use Rattle.ae_lower.proofs.Costing.{few_nodes}
use Rattle.ae_lower.proofs.Instances.{AreSpread, head_of, lane_results, more_bodies, no_bodies, standing}
use Rattle.ae_lower.proofs.Placed.{arrivals_told, chains_in, chains_told, chosen_below, func_tree, placed_in, result_waits_in, result_waits_told, waits_in, waits_told, standing_widths}
use Rattle.ae_netlist.proofs.Growing.{extends_length}
use Rattle.ae_lower.proofs.Ending.{all_bodies, next_le, own_lane, some_results}
use Rattle.ae_lower.proofs.Covering.{sections_none, sections_trans}
use Rattle.ae_clocked.proofs.Keeping.{rings_grow}
use Rattle.ae_lower.proofs.Waiting.{chains_long, layouts_small}
use Rattle.ae_lower.proofs.calls.+lowering.Goals as goal
use Rattle.ae_lower.proofs.calls.+lowering.Answers.Instance
use Rattle.ae_lower.proofs.calls.+lowering.Answers.Node

pub lower_bodies-lower_instance-requires : goal.lower_bodies-lower_instance-requires
lower_bodies-lower_instance-requires t c =
    let instances = instances_of c.args.whole.now in
    let own = own_lane instances c.args.m c.args.copies c.loop-lane.lane c.args.args.now c.in_ok-own.own.items c.deref.result.now
    c.args.nl.now c.loop-lane.nl c.loop-lane-test.true c.loop-lane.invariant.spread.grows.grows.extends c.in_ok-own.ensures.ok c.deref.ensures.value
    c.requires.args in (
      omega (arith, c.decreases),
      (
        c.loop-lane.invariant.belongs,
        (
          c.requires.whole,
          (
            c.requires.light,
            (
              own,
              room_behind _ (next_le c.loop-lane.lane c.args.copies (instance_costs instances c.args.m).load c.loop-lane-test.true)
                  c.loop-lane.invariant.spread.grows c.requires.room,
            ),
          ),
        ),
      ),
    )

pub lower_bodies-index-requires : goal.lower_bodies-index-requires
lower_bodies-index-requires t c =
    let some = some_results (instances_of c.args.whole.now) c.args.m c.requires.whole.timed.sound c.requires.light.0 c.requires.light.1.found in
    let long = (c.in_ok-results.ensures.results c.requires.light.0 c.requires.light.1.found).long in
    omega (arith, some, long, c.in_ok-results.results.ok)

pub lower_bodies-returns-clause-belongs : goal.lower_bodies-returns-clause-belongs
lower_bodies-returns-clause-belongs t c = c.loop-lane.invariant.belongs

pub lower_bodies-returns-clause-keeps : goal.lower_bodies-returns-clause-keeps
lower_bodies-returns-clause-keeps t c = c.loop-lane.invariant.keeps

pub lower_bodies-returns-clause-grows : goal.lower_bodies-returns-clause-grows
lower_bodies-returns-clause-grows t c =
    let end : c.loop-lane.lane ≡ c.args.copies = omega (arith, c.loop-lane-test.false, c.loop-lane.auto.lane-end) in
    (subst (λ (i : ℕ). AreSpread (instances_of c.args.whole.now) c.args.m c.args.at c.args.clocks.now.rst c.args.copies c.args.args.now c.args.nl.now
    c.loop-lane.nl i c.loop-lane.out.items) end c.loop-lane.invariant.spread).grows

pub lower_bodies-returns-clause-adds : goal.lower_bodies-returns-clause-adds
lower_bodies-returns-clause-adds t c =
    let end : c.loop-lane.lane ≡ c.args.copies = omega (arith, c.loop-lane-test.false, c.loop-lane.auto.lane-end) in
    (subst (λ (i : ℕ). AreSpread (instances_of c.args.whole.now) c.args.m c.args.at c.args.clocks.now.rst c.args.copies c.args.args.now c.args.nl.now
    c.loop-lane.nl i c.loop-lane.out.items) end c.loop-lane.invariant.spread).adds

pub lower_bodies-returns-clause-built : goal.lower_bodies-returns-clause-built
lower_bodies-returns-clause-built t c =
    let instances = instances_of c.args.whole.now in
    let end : c.loop-lane.lane ≡ c.args.copies = omega (arith, c.loop-lane-test.false, c.loop-lane.auto.lane-end) in
    let built = all_bodies instances c.args.m c.args.at c.args.clocks.now.rst c.args.copies c.args.args.now c.args.nl.now c.loop-lane.nl
    c.loop-lane.out.items c.flows_fit.ensures c.requires.whole.timed.sound c.requires.whole.timed.fitted c.requires.some c.requires.args
    (subst (λ (i : ℕ). AreSpread instances c.args.m c.args.at c.args.clocks.now.rst c.args.copies c.args.args.now c.args.nl.now
    c.loop-lane.nl i c.loop-lane.out.items) end c.loop-lane.invariant.spread) in
    rw c.new.ensures built

pub lower_bodies-returns-clause-sections : goal.lower_bodies-returns-clause-sections
lower_bodies-returns-clause-sections t c = c.loop-lane.invariant.sections

pub lower_instance-result_waits_of-waits-requires : goal.lower_instance-result_waits_of-waits-requires
lower_instance-result_waits_of-waits-requires t c = (
  _,
  result_waits_told (instances_of c.args.whole.now) c.args.whole.now.slacks.now c.args.k (st_func_tree c.instance-s.result.now) c.requires.whole.slacks
      (func_tree c.args.whole.now.program.now c.args.k c.instance-s.result.now c.instance-s.ensures),
)

pub lower_instance-chains_of-chains-requires : goal.lower_instance-chains_of-chains-requires
lower_instance-chains_of-chains-requires t c = (
  _,
  chains_told (instances_of c.args.whole.now) c.args.whole.now.slacks.now c.args.k (st_func_tree c.instance-s.result.now) c.requires.whole.slacks
      (func_tree c.args.whole.now.program.now c.args.k c.instance-s.result.now c.instance-s.ensures),
)

pub lower_instance-waiting_memories-most-requires : goal.lower_instance-waiting_memories-most-requires
lower_instance-waiting_memories-most-requires t c =
    let instances = instances_of c.args.whole.now in
    let func = func_tree c.args.whole.now.program.now c.args.k c.instance-s.result.now c.instance-s.ensures in
    let are = chains_in instances c.args.whole.now.slacks.now c.args.k
    (st_func_tree c.instance-s.result.now) c.chains_of-chains.result.now c.requires.whole.slacks func c.chains_of-chains.ensures in
    let long = chains_long instances c.args.k (st_func_tree c.instance-s.result.now) c.chains_of-chains.result.now are in
    record {
      long = long;
      sizes = λ i l. layouts_small instances c.args.k
          (st_func_tree c.instance-s.result.now) c.requires.whole.timed.sound func i (omega (arith, l, long));
    }

pub lower_instance-lower_node-requires : goal.lower_instance-lower_node-requires
lower_instance-lower_node-requires = Instance.lower_instance-lower_node-requires

pub lower_instance-joined-requires-clause-belongs : goal.lower_instance-joined-requires-clause-belongs
lower_instance-joined-requires-clause-belongs t c = c.loop-j.invariant.belongs

pub lower_instance-joined-requires-clause-rings : goal.lower_instance-joined-requires-clause-rings
lower_instance-joined-requires-clause-rings t c = rw c.loop-j.invariant.keeps.rst c.loop-j.invariant.rings

pub lower_instance-joined-requires-clause-nets : goal.lower_instance-joined-requires-clause-nets
lower_instance-joined-requires-clause-nets t c = λ i nets f.
    let instances = instances_of c.args.whole.now in
    let stand = standing c.loop-j.nl.cells c.args.clocks.now.rst c.args.at (callees (take c.args.k instances))
    (st_func_tree c.instance-s.result.now) (arrivals_in instances c.args.k (st_func_tree c.instance-s.result.now)) c.args.ins.now
    (length (st_func_tree c.instance-s.result.now).ins + c.loop-j.j) c.loop-j.items.items c.loop-j.invariant.lowered.have in
    standing_widths c.loop-j.nl.cells (st_func_tree c.instance-s.result.now)
    (length (st_func_tree c.instance-s.result.now).ins + c.loop-j.j) c.loop-j.items.items stand i nets
    (sym (ap (λ xs. slice_get xs i) c.deref-2.ensures.value) ∙ f)

pub lower_instance-joined-requires-clause-below : goal.lower_instance-joined-requires-clause-below
lower_instance-joined-requires-clause-below = Instance.lower_instance-joined-requires-clause-below

pub lower_instance-joined-requires-clause-room : goal.lower_instance-joined-requires-clause-room
lower_instance-joined-requires-clause-room = Instance.lower_instance-joined-requires-clause-room

pub lower_instance-joined-requires-clause-long : goal.lower_instance-joined-requires-clause-long
lower_instance-joined-requires-clause-long t c =
    let instances = instances_of c.args.whole.now in
    let ew = result_waits_in c.args.whole.now.program.now c.args.whole.now.slacks.now c.args.k c.instance-s.result.now c.result_waits_of-waits.result.now
    c.requires.whole.slacks
    c.instance-s.ensures c.result_waits_of-waits.ensures in
    ap length ew ∙ (length-map (st_func_tree c.instance-s.result.now).results
    (λ (a : ℕ). latest (arrivals_in instances c.args.k (st_func_tree c.instance-s.result.now))
    (st_func_tree c.instance-s.result.now).results - get_or
    (arrivals_in instances c.args.k (st_func_tree c.instance-s.result.now)) a 0) ∙ ap length (sym c.deref-3.ensures.value))

pub lower_instance-returns-clause-keeps : goal.lower_instance-returns-clause-keeps
lower_instance-returns-clause-keeps t c = keeps_trans c.loop-j.invariant.keeps c.in_ok-results.ensures.keeps

pub lower_instance-returns-clause-grows : goal.lower_instance-returns-clause-grows
lower_instance-returns-clause-grows = Instance.lower_instance-returns-clause-grows

pub lower_instance-returns-clause-adds : goal.lower_instance-returns-clause-adds
lower_instance-returns-clause-adds = Instance.lower_instance-returns-clause-adds

pub lower_instance-returns-clause-results : goal.lower_instance-returns-clause-results
lower_instance-returns-clause-results = Instance.lower_instance-returns-clause-results

pub lower_instance-returns-clause-marks : goal.lower_instance-returns-clause-marks
lower_instance-returns-clause-marks = Instance.lower_instance-returns-clause-marks

pub lower_instance-returns-clause-nodes : goal.lower_instance-returns-clause-nodes
lower_instance-returns-clause-nodes = Instance.lower_instance-returns-clause-nodes

pub lower_instance-overflow_cast-node : goal.lower_instance-overflow_cast-node
lower_instance-overflow_cast-node t c =
    let func = func_tree c.args.whole.now.program.now c.args.k c.instance-s.result.now c.instance-s.ensures in
    omega (
      arith,
      few_nodes (instances_of c.args.whole.now) c.args.k (st_func_tree c.instance-s.result.now) func,
      c.requires.light.1.early,
      c.len-node.ensures,
      c.instance-s.result.now.nodes.ok,
      length-map c.instance-s.result.now.nodes.items st_node_tree,
    )

pub lower_instance-returns-clause-sections : goal.lower_instance-returns-clause-sections
lower_instance-returns-clause-sections = Instance.lower_instance-returns-clause-sections

pub lower_node-arrivals_of-arrivals-requires : goal.lower_node-arrivals_of-arrivals-requires
lower_node-arrivals_of-arrivals-requires t c = (
  _,
  arrivals_told (instances_of c.args.within.now.whole) c.args.within.now.whole.timing.now.arrivals c.args.within.now.number c.args.within.now.at
      (st_func_tree c.instance-s.result.now) c.requires.whole.timed c.requires.light
      (func_tree c.args.within.now.whole.program.now c.args.within.now.number c.instance-s.result.now c.instance-s.ensures),
)

pub lower_node-overflow_cast-number : goal.lower_node-overflow_cast-number
lower_node-overflow_cast-number t c =
    let within = c.args.within.now in
    let h = placed_in within.whole.program.now within.whole.timing.now.arrivals within.number c.args.j within.at c.instance-s.result.now c.index-node.result.now
    c.arrivals_of-arrivals.result.now c.requires.whole.timed c.requires.light c.instance-s.ensures c.requires.node c.index-node.ensures
    c.arrivals_of-arrivals.ensures in
    let there : c.args.j < length (st_func_tree c.instance-s.result.now).nodes = slice_get_within (st_func_tree c.instance-s.result.now).nodes c.args.j
    (st_node_tree c.index-node.result.now) h.node in
    omega (arith, there, few_nodes (instances_of within.whole) within.number (st_func_tree c.instance-s.result.now) h.func, c.requires.light.1.early)

pub lower_node-waits_of-waits-requires : goal.lower_node-waits_of-waits-requires
lower_node-waits_of-waits-requires t c =
    let within = c.args.within.now in
    let h = placed_in within.whole.program.now within.whole.timing.now.arrivals within.number c.args.j within.at c.instance-s.result.now c.index-node.result.now
    c.arrivals_of-arrivals.result.now c.requires.whole.timed c.requires.light c.instance-s.ensures c.requires.node c.index-node.ensures
    c.arrivals_of-arrivals.ensures in (
      _,
      waits_told (instances_of within.whole) within.whole.slacks.now within.number c.args.j (st_func_tree c.instance-s.result.now)
          (st_node_tree c.index-node.result.now) c.requires.whole.slacks h.func h.node,
    )

pub lower_node-index-node-requires : goal.lower_node-index-node-requires
lower_node-index-node-requires t c =
    (let l = c.requires.node (st_func_tree c.instance-s.result.now)
    (func_tree c.args.within.now.whole.program.now c.args.within.now.number c.instance-s.result.now c.instance-s.ensures) in
    omega (arith, l, c.instance-s.result.now.nodes.ok, length-map c.instance-s.result.now.nodes.items st_node_tree))

pub lower_node-start_of-start-requires-clause-below : goal.lower_node-start_of-start-requires-clause-below
lower_node-start_of-start-requires-clause-below = Node.lower_node-start_of-start-requires-clause-below

pub lower_node-start_of-start-requires-clause-waits : goal.lower_node-start_of-start-requires-clause-waits
lower_node-start_of-start-requires-clause-waits t c =
    let within = c.args.within.now in
    let h = placed_in within.whole.program.now within.whole.timing.now.arrivals within.number c.args.j within.at c.instance-s.result.now c.index-node.result.now
    c.arrivals_of-arrivals.result.now c.requires.whole.timed c.requires.light c.instance-s.ensures c.requires.node c.index-node.ensures
    c.arrivals_of-arrivals.ensures in
    let ew = waits_in (instances_of within.whole) within.whole.slacks.now within.number c.args.j within.at (st_func_tree c.instance-s.result.now)
    (st_node_tree c.index-node.result.now) c.arrivals_of-arrivals.result.now c.waits_of-waits.result.now c.requires.whole.slacks h c.waits_of-waits.ensures in
    ew ∙ (ap (λ xs. joint_slacks xs (st_node_tree c.index-node.result.now).args) (sym h.arrivals) ∙ ap (joint_slacks c.arrivals_of-arrivals.result.now)
    (sym c.deref.ensures.value))

pub lower_node-start_of-start-requires-clause-early : goal.lower_node-start_of-start-requires-clause-early
lower_node-start_of-start-requires-clause-early t c =
    let within = c.args.within.now in
    let h = placed_in within.whole.program.now within.whole.timing.now.arrivals within.number c.args.j within.at c.instance-s.result.now c.index-node.result.now
    c.arrivals_of-arrivals.result.now c.requires.whole.timed c.requires.light c.instance-s.ensures c.requires.node c.index-node.ensures
    c.arrivals_of-arrivals.ensures in
    let same : latest c.arrivals_of-arrivals.result.now c.deref.result.now ≡ latest c.arrivals_of-arrivals.result.now
    (st_node_tree c.index-node.result.now).args = ap (latest c.arrivals_of-arrivals.result.now) c.deref.ensures.value in
    omega (arith, h.early, same)

pub lower_node-chains_of-chains-requires : goal.lower_node-chains_of-chains-requires
lower_node-chains_of-chains-requires t c = (
  _,
  chains_told (instances_of c.args.within.now.whole) c.args.within.now.whole.slacks.now c.args.within.now.number
      (st_func_tree c.instance-s.result.now) c.requires.whole.slacks
      (func_tree c.args.within.now.whole.program.now c.args.within.now.number c.instance-s.result.now c.instance-s.ensures),
)

pub lower_node-joined-requires-clause-nets : goal.lower_node-joined-requires-clause-nets
lower_node-joined-requires-clause-nets t c =
    let within = c.args.within.now in
    let h = placed_in within.whole.program.now within.whole.timing.now.arrivals within.number c.args.j within.at c.instance-s.result.now c.index-node.result.now
    c.arrivals_of-arrivals.result.now c.requires.whole.timed c.requires.light c.instance-s.ensures c.requires.node c.index-node.ensures
    c.arrivals_of-arrivals.ensures in
    standing_widths c.args.nl.now.cells (st_func_tree c.instance-s.result.now) (length (st_func_tree c.instance-s.result.now).ins + c.args.j) c.args.items.now
    (c.requires.items (st_func_tree c.instance-s.result.now) h.func)

pub lower_node-joined-requires-clause-below : goal.lower_node-joined-requires-clause-below
lower_node-joined-requires-clause-below t c = λ r i f.
    let within = c.args.within.now in
    let h = placed_in within.whole.program.now within.whole.timing.now.arrivals within.number c.args.j within.at c.instance-s.result.now c.index-node.result.now
    c.arrivals_of-arrivals.result.now c.requires.whole.timed c.requires.light c.instance-s.ensures c.requires.node c.index-node.ensures
    c.arrivals_of-arrivals.ensures in
    (let l = chosen_below (instances_of within.whole) within.number c.args.j within.at (st_func_tree c.instance-s.result.now)
    (st_node_tree c.index-node.result.now) c.arrivals_of-arrivals.result.now c.deref-2.result.now h c.deref-2.ensures.value r i f in
    omega (arith, l, (c.requires.items (st_func_tree c.instance-s.result.now) h.func).long))

pub lower_node-joined-requires-clause-room : goal.lower_node-joined-requires-clause-room
lower_node-joined-requires-clause-room = Node.lower_node-joined-requires-clause-room

pub lower_node-joined-requires-clause-long : goal.lower_node-joined-requires-clause-long
lower_node-joined-requires-clause-long t c =
    let within = c.args.within.now in
    let instances = instances_of within.whole in
    let h = placed_in within.whole.program.now within.whole.timing.now.arrivals within.number c.args.j within.at c.instance-s.result.now c.index-node.result.now
    c.arrivals_of-arrivals.result.now c.requires.whole.timed c.requires.light c.instance-s.ensures c.requires.node c.index-node.ensures
    c.arrivals_of-arrivals.ensures in
    let ew = waits_in instances within.whole.slacks.now within.number c.args.j within.at (st_func_tree c.instance-s.result.now)
    (st_node_tree c.index-node.result.now) c.arrivals_of-arrivals.result.now c.waits_of-waits.result.now c.requires.whole.slacks h c.waits_of-waits.ensures in
    ap length ew ∙ (length-map (st_node_tree c.index-node.result.now).args
    (λ (a : ℕ). latest (arrivals_in instances within.number (st_func_tree c.instance-s.result.now))
    (st_node_tree c.index-node.result.now).args - get_or (arrivals_in instances within.number (st_func_tree c.instance-s.result.now)) a 0) ∙
    ap length (sym c.deref-2.ensures.value))

pub lower_node-overflow_add-at : goal.lower_node-overflow_add-at
lower_node-overflow_add-at t c =
    let within = c.args.within.now in
    let h = placed_in within.whole.program.now within.whole.timing.now.arrivals within.number c.args.j within.at c.instance-s.result.now c.index-node.result.now
    c.arrivals_of-arrivals.result.now c.requires.whole.timed c.requires.light c.instance-s.ensures c.requires.node c.index-node.ensures
    c.arrivals_of-arrivals.ensures in
    let start : c.start_of-start.result ≡ latest c.arrivals_of-arrivals.result.now (st_node_tree c.index-node.result.now).args = c.start_of-start.ensures ∙
    ap (latest c.arrivals_of-arrivals.result.now) c.deref.ensures.value in
    let early : within.at + c.start_of-start.result ≤ 100000 = omega (arith, h.early, start) in
    omega (arith, early)

pub lower_node-lower_bodies-requires : goal.lower_node-lower_bodies-requires
lower_node-lower_bodies-requires = Node.lower_node-lower_bodies-requires

pub lower_node-returns-in-Body-clause-sections : goal.lower_node-returns-in-Body-clause-sections
lower_node-returns-in-Body-clause-sections = Node.lower_node-returns-in-Body-clause-sections

pub lower_node-returns-in-Body-clause-keeps : goal.lower_node-returns-in-Body-clause-keeps
lower_node-returns-in-Body-clause-keeps t c = keeps_trans c.in_ok-args.ensures.keeps c.in_ok-made-in-Body.ensures.keeps

pub lower_node-returns-in-Body-clause-grows : goal.lower_node-returns-in-Body-clause-grows
lower_node-returns-in-Body-clause-grows = Node.lower_node-returns-in-Body-clause-grows

pub lower_node-returns-in-Body-clause-spends : goal.lower_node-returns-in-Body-clause-spends
lower_node-returns-in-Body-clause-spends = Node.lower_node-returns-in-Body-clause-spends

pub lower_node-returns-in-Body-clause-rings : goal.lower_node-returns-in-Body-clause-rings
lower_node-returns-in-Body-clause-rings t c =
    rings_grow c.in_ok-made-in-Body.ensures.grows.grows.extends c.in_ok-args.ensures.rings

pub lower_node-returns-in-Body-clause-item : goal.lower_node-returns-in-Body-clause-item
lower_node-returns-in-Body-clause-item = Node.lower_node-returns-in-Body-clause-item

pub lower_node-overflow_add-at-in-Word : goal.lower_node-overflow_add-at-in-Word
lower_node-overflow_add-at-in-Word t c =
    let within = c.args.within.now in
    let h = placed_in within.whole.program.now within.whole.timing.now.arrivals within.number c.args.j within.at c.instance-s.result.now c.index-node.result.now
    c.arrivals_of-arrivals.result.now c.requires.whole.timed c.requires.light c.instance-s.ensures c.requires.node c.index-node.ensures
    c.arrivals_of-arrivals.ensures in
    let start : c.start_of-start.result ≡ latest c.arrivals_of-arrivals.result.now (st_node_tree c.index-node.result.now).args = c.start_of-start.ensures ∙
    ap (latest c.arrivals_of-arrivals.result.now) c.deref.ensures.value in
    let early : within.at + c.start_of-start.result ≤ 100000 = omega (arith, h.early, start) in
    omega (arith, early)

pub lower_node-build-requires : goal.lower_node-build-requires
lower_node-build-requires = Node.lower_node-build-requires

pub lower_node-returns : goal.lower_node-returns
lower_node-returns = Node.lower_node-returns

pub lower_bodies-loop-lane-init : goal.lower_bodies-loop-lane-init
lower_bodies-loop-lane-init t c = record {
  belongs = c.requires.belongs;
  keeps = keeps_none c.args.clocks.now;
  spread = no_bodies (instances_of c.args.whole.now) c.args.m c.args.at c.args.clocks.now.rst c.args.copies c.args.args.now c.args.nl.now c.new-out.result.items
      c.new-out.ensures.items;
  within = omega arith;
  sections = λ h. sections_none (length c.args.nl.now.cells) c.args.sections.now.items h;
}

pub lower_bodies-loop-lane-preserved : goal.lower_bodies-loop-lane-preserved
lower_bodies-loop-lane-preserved t c =
    let instances = instances_of c.args.whole.now in
    let results = c.in_ok-results.ensures.results in
    let some : 1 ≤ length c.in_ok-results.results.items = (let few = some_results
    instances c.args.m c.requires.whole.timed.sound c.requires.light.0 c.requires.light.1.found in
    let long = (results c.requires.light.0 c.requires.light.1.found).long in omega (arith, few, long)) in
    let first = head_of c.in_ok-results.results.items c.index.result.now c.nets.result.now some c.index.ensures c.nets.ensures in
    record {
      belongs = c.in_ok-results.ensures.belongs;
      keeps = keeps_trans c.loop-lane.invariant.keeps c.in_ok-results.ensures.keeps;
      spread = more_bodies instances c.args.m c.args.at c.args.clocks.now.rst c.args.copies c.args.args.now c.in_ok-results.results.items
          c.args.nl.now c.loop-lane.nl c.lower_instance.new.nl c.loop-lane.lane c.loop-lane.out.items c.extend_from_slice.new.self.items c.nets.result.now
          (some_results instances c.args.m c.requires.whole.timed.sound) c.in_ok-extend_from_slice.ensures.items first
          c.in_ok-results.ensures.grows c.in_ok-results.ensures.adds
          (lane_results instances c.args.m c.args.at c.loop-lane.clocks.rst c.args.clocks.now.rst c.args.copies c.loop-lane.lane
          c.args.args.now c.deref.result.now c.in_ok-own.own.items c.in_ok-results.results.items c.lower_instance.new.nl.cells
          c.loop-lane.invariant.keeps.rst c.deref.ensures.value c.in_ok-own.ensures.ok results) c.loop-lane.invariant.spread;
      within = omega (arith, c.loop-lane-test.true);
      sections = λ h. (let was = c.loop-lane.invariant.sections h in
          sections_trans (length c.args.nl.now.cells) (length c.loop-lane.nl.cells)
          (length c.lower_instance.new.nl.cells) c.args.sections.now.items c.loop-lane.sections.items c.lower_instance.new.sections.items
          (extends_length c.args.nl.now.cells c.loop-lane.nl.cells c.loop-lane.invariant.spread.grows.grows.extends) was
          (c.in_ok-results.ensures.sections was.are));
    }

pub lower_instance-loop-j-init : goal.lower_instance-loop-j-init
lower_instance-loop-j-init = Instance.lower_instance-loop-j-init

pub lower_instance-loop-j-preserved : goal.lower_instance-loop-j-preserved
lower_instance-loop-j-preserved = Instance.lower_instance-loop-j-preserved
