-- One node: its arguments, each as late as the latest, and then its cells, or those of the instance that it calls.
use Rattle.std.proofs.Common.{◌≡◌, ◌+◌, ◌-◌, ◌<◌, ◌≤◌, ◌*◌, List, take, arith, ap, sym, refl, ◌∙◌, subst, length, ℕ}
use Rattle.std.proofs.lemmas.Option.{slice_get_within}
use Rattle.ae_netlist.specs.declared.cell.NetId.{NetId}
use Rattle.ae_ops.specs.Blocks.{AreBundles}
use Rattle.ae_clocked.proofs.InRow.{keeps_trans}
use Rattle.ae_rewrite.specs.StProgramTree.{StFuncTree, body, st_func_tree, st_node_tree, st_op_tree}
use Rattle.ae_rewrite.specs.Sound.{item_layouts}
use Rattle.ae_delay.specs.declared.own.OwnCosts.{OwnCosts}
use Rattle.ae_delay.specs.Costs.{all_costs, latest, node_costs}
use Rattle.ae_flow.specs.Flow.{callees}
use Rattle.ae_ports.specs.Ports.{streams_of}
use Rattle.ae_lower.specs.Growth.{GrowsBy, IsBuilt, Spends}
use Rattle.ae_lower.specs.Delaying.{AreDelayed, delay_load}
use Rattle.ae_lower.specs.Nodes.{arguments_of, node_part, plain_costs}
use Rattle.ae_lower.specs.Lowering.{IsLight, bodies_part, instance_costs, instances_of}
use Rattle.ae_lower.proofs.Growing.{room_behind}
use Rattle.ae_lower.proofs.Placed.{args_stand, at_node, bodies_placed, call_args, call_light, call_spends, calls_nothing, chosen_below, is_call, node_fits, node_grows, node_placed, node_ready, own_long, placed_in, waits_in, plain_is, plain_spends}
use Rattle.ae_netlist.proofs.Growing.{extends_length}
use Rattle.ae_lower.specs.Sections.{IsSectionFor}
use Rattle.ae_lower.proofs.Covering.{called_section, own_section, sections_begun, sections_of, sections_trans}
use Rattle.ae_clocked.proofs.Keeping.{rings_grow}
use Rattle.ae_netlist.specs.Room.{HasRoom}
use Rattle.ae_lower.proofs.calls.+lowering.Goals as goal

pub lower_node-start_of-start-requires-clause-below : goal.lower_node-start_of-start-requires-clause-below
lower_node-start_of-start-requires-clause-below t c = λ r i f.
    let within = c.args.within.now in
    let instances = instances_of within.whole in
    let h = placed_in within.whole.program.now within.whole.timing.now.arrivals within.number c.args.j within.at c.instance-s.result.now c.index-node.result.now
    c.arrivals_of-arrivals.result.now c.requires.whole.timed c.requires.light c.instance-s.ensures c.requires.node c.index-node.ensures
    c.arrivals_of-arrivals.ensures in
    (let l = chosen_below instances within.number c.args.j within.at (st_func_tree c.instance-s.result.now)
    (st_node_tree c.index-node.result.now) c.arrivals_of-arrivals.result.now c.deref.result.now h c.deref.ensures.value r i f in omega (
      arith,
      l,
      own_long instances within.number c.args.j within.at (st_func_tree c.instance-s.result.now)
          (st_node_tree c.index-node.result.now) c.arrivals_of-arrivals.result.now h,
    ))

pub lower_node-joined-requires-clause-room : goal.lower_node-joined-requires-clause-room
lower_node-joined-requires-clause-room t c =
    let within = c.args.within.now in
    let instances = instances_of within.whole in
    let h = placed_in within.whole.program.now within.whole.timing.now.arrivals within.number c.args.j within.at c.instance-s.result.now c.index-node.result.now
    c.arrivals_of-arrivals.result.now c.requires.whole.timed c.requires.light c.instance-s.ensures c.requires.node c.index-node.ensures
    c.arrivals_of-arrivals.ensures in
    let ew = waits_in instances within.whole.slacks.now within.number c.args.j within.at (st_func_tree c.instance-s.result.now)
    (st_node_tree c.index-node.result.now) c.arrivals_of-arrivals.result.now c.waits_of-waits.result.now c.requires.whole.slacks h c.waits_of-waits.ensures in
    let fits = node_fits instances within.number c.args.j within.at (st_func_tree c.instance-s.result.now)
    (st_node_tree c.index-node.result.now) c.arrivals_of-arrivals.result.now c.waits_of-waits.result.now c.args.nl.now.cells c.args.items.now
    0 h
    (c.requires.items (st_func_tree c.instance-s.result.now) h.func) ew (omega arith) in
    let room = c.requires.room (st_func_tree c.instance-s.result.now) (st_node_tree c.index-node.result.now) h.timing h.is_at in
    let own : HasRoom c.args.nl.now (16 * delay_load c.args.items.now c.waits_of-waits.result.now (st_node_tree c.index-node.result.now).args) = omega (
      arith,
      room,
      fits,
    ) in
    subst (λ (is : List ℕ). HasRoom c.args.nl.now (16 * delay_load c.args.items.now c.waits_of-waits.result.now is)) (sym c.deref-2.ensures.value) own

pub lower_node-lower_bodies-requires : goal.lower_node-lower_bodies-requires
lower_node-lower_bodies-requires t c =
    let within = c.args.within.now in
    let instances = instances_of within.whole in
    let h = placed_in within.whole.program.now within.whole.timing.now.arrivals within.number c.args.j within.at c.instance-s.result.now c.index-node.result.now
    c.arrivals_of-arrivals.result.now c.requires.whole.timed c.requires.light c.instance-s.ensures c.requires.node c.index-node.ensures
    c.arrivals_of-arrivals.ensures in
    let start : c.start_of-start.result ≡ latest c.arrivals_of-arrivals.result.now (st_node_tree c.index-node.result.now).args = c.start_of-start.ensures ∙
    ap (latest c.arrivals_of-arrivals.result.now) c.deref.ensures.value in
    let late : AreDelayed c.args.nl.now.cells c.joined.new.nl.cells c.args.clocks.now.rst c.args.items.now c.waits_of-waits.result.now
    (st_node_tree c.index-node.result.now).args c.in_ok-args.args.items = subst
    (λ (is : List ℕ). AreDelayed c.args.nl.now.cells c.joined.new.nl.cells c.args.clocks.now.rst c.args.items.now c.waits_of-waits.result.now is
    c.in_ok-args.args.items) c.deref-2.ensures.value c.in_ok-args.ensures.delayed in
    let bundles : AreBundles c.joined.new.nl.cells (streams_of (arguments_of (st_func_tree c.instance-s.result.now) (st_node_tree c.index-node.result.now)))
    c.deref-in-Body.result.now = subst (λ (bs : List (List NetId)). AreBundles c.joined.new.nl.cells
    (streams_of (arguments_of (st_func_tree c.instance-s.result.now) (st_node_tree c.index-node.result.now))) bs) (sym c.deref-in-Body.ensures.value)
    (args_stand c.args.nl.now.cells c.joined.new.nl.cells c.args.clocks.now.rst (st_func_tree c.instance-s.result.now)
    (length (st_func_tree c.instance-s.result.now).ins + c.args.j) c.args.items.now c.waits_of-waits.result.now
    (st_node_tree c.index-node.result.now).args c.in_ok-args.args.items (c.requires.items (st_func_tree c.instance-s.result.now) h.func) h.below late) in
    let op : (st_node_tree c.index-node.result.now).op ≡ body c.in-Body.m = ap st_op_tree c.in-Body.is in
    let call = is_call instances within.number c.args.j c.in-Body.m within.at (st_func_tree c.instance-s.result.now)
    (st_node_tree c.index-node.result.now) c.arrivals_of-arrivals.result.now op h in
    let ew = waits_in instances within.whole.slacks.now within.number c.args.j within.at (st_func_tree c.instance-s.result.now)
    (st_node_tree c.index-node.result.now) c.arrivals_of-arrivals.result.now c.waits_of-waits.result.now c.requires.whole.slacks h c.waits_of-waits.ensures in
    let delays : GrowsBy c.args.nl.now c.joined.new.nl (delay_load c.args.items.now c.waits_of-waits.result.now
    (st_node_tree c.index-node.result.now).args) = subst
    (λ (is : List ℕ). GrowsBy c.args.nl.now c.joined.new.nl (delay_load c.args.items.now c.waits_of-waits.result.now is)) c.deref-2.ensures.value
    c.in_ok-args.ensures.grows in
    let loads : (node_costs (all_costs (take within.number instances)) (item_layouts (st_func_tree c.instance-s.result.now))
    (st_node_tree c.index-node.result.now)).load ≡ 1 + (st_node_tree c.index-node.result.now).copies * (instance_costs
    instances c.in-Body.m).load = ap (λ (o : OwnCosts). o.load) call.1.costs in
    let fits = node_fits instances within.number c.args.j within.at (st_func_tree c.instance-s.result.now)
    (st_node_tree c.index-node.result.now) c.arrivals_of-arrivals.result.now c.waits_of-waits.result.now c.args.nl.now.cells c.args.items.now
    ((st_node_tree c.index-node.result.now).copies * (instance_costs instances c.in-Body.m).load) h
    (c.requires.items (st_func_tree c.instance-s.result.now) h.func) ew (omega (arith, loads)) in
    let room = c.requires.room (st_func_tree c.instance-s.result.now) (st_node_tree c.index-node.result.now) h.timing h.is_at in
    let light : IsLight instances c.in-Body.m (within.at + c.start_of-start.result) call.0 = subst
    (λ (i : ℕ). IsLight instances c.in-Body.m (within.at + i) call.0) (sym start)
    (call_light instances within.number c.args.j c.in-Body.m within.at (st_func_tree c.instance-s.result.now)
    (st_node_tree c.index-node.result.now) c.arrivals_of-arrivals.result.now call.0 h call.1) in (
      omega (arith, c.decreases, call.1.earlier),
      (
        c.in_ok-args.ensures.belongs,
        (
          c.requires.whole,
          (
            (call.0, light),
            (
              h.good.some_copies,
              (
                call_args instances within.number c.in-Body.m (st_func_tree c.instance-s.result.now)
                    (st_node_tree c.index-node.result.now) call.0 c.joined.new.nl.cells c.deref-in-Body.result.now call.1 bundles,
                room_behind _ fits delays room,
              ),
            ),
          ),
        ),
      ),
    )

pub lower_node-returns-in-Body-clause-sections : goal.lower_node-returns-in-Body-clause-sections
lower_node-returns-in-Body-clause-sections t c =
    let within = c.args.within.now in
    let instances = instances_of within.whole in
    let h = placed_in within.whole.program.now within.whole.timing.now.arrivals within.number c.args.j within.at c.instance-s.result.now c.index-node.result.now
    c.arrivals_of-arrivals.result.now c.requires.whole.timed c.requires.light c.instance-s.ensures c.requires.node c.index-node.ensures
    c.arrivals_of-arrivals.ensures in
    let f : StFuncTree = st_func_tree c.instance-s.result.now in
    let there : c.args.j < length f.nodes = slice_get_within f.nodes c.args.j (st_node_tree c.index-node.result.now) h.node in
    let front : length c.args.nl.now.cells ≤ length c.joined.new.nl.cells = extends_length c.args.nl.now.cells c.joined.new.nl.cells
    c.in_ok-args.ensures.grows.grows.extends in
    let op : (st_node_tree c.index-node.result.now).op ≡ body c.in-Body.m = ap st_op_tree c.in-Body.is in
    (let called = c.in_ok-made-in-Body.ensures.sections in λ h_old.
    let own = sections_begun {Of = IsSectionFor instances within.number c.args.j} (length c.args.nl.now.cells) (length c.joined.new.nl.cells)
    (record { cell = c.len-cell.result; instance = within.number; node = c.args.j })
    c.args.sections.now.items c.begin.new.sections.items c.in_ok-begin.ensures.ok c.len-cell.ensures front h_old
    (own_section instances within.number c.args.j f _ h.func (omega (arith, there)) refl refl) in
    let inner = sections_of (length c.joined.new.nl.cells) (length c.lower_bodies.new.nl.cells) c.begin.new.sections.items c.lower_bodies.new.sections.items
    (λ s is. called_section instances within.number c.args.j c.in-Body.m f (st_node_tree c.index-node.result.now) s h.func h.node op is)
    (called own.are) in
    sections_trans (length c.args.nl.now.cells) (length c.joined.new.nl.cells)
    (length c.lower_bodies.new.nl.cells) c.args.sections.now.items c.begin.new.sections.items c.lower_bodies.new.sections.items front own inner)

pub lower_node-returns-in-Body-clause-grows : goal.lower_node-returns-in-Body-clause-grows
lower_node-returns-in-Body-clause-grows t c =
    let within = c.args.within.now in
    let instances = instances_of within.whole in
    let h = placed_in within.whole.program.now within.whole.timing.now.arrivals within.number c.args.j within.at c.instance-s.result.now c.index-node.result.now
    c.arrivals_of-arrivals.result.now c.requires.whole.timed c.requires.light c.instance-s.ensures c.requires.node c.index-node.ensures
    c.arrivals_of-arrivals.ensures in
    let ew = waits_in instances within.whole.slacks.now within.number c.args.j within.at (st_func_tree c.instance-s.result.now)
    (st_node_tree c.index-node.result.now) c.arrivals_of-arrivals.result.now c.waits_of-waits.result.now c.requires.whole.slacks h c.waits_of-waits.ensures in
    let delays : GrowsBy c.args.nl.now c.joined.new.nl (delay_load c.args.items.now c.waits_of-waits.result.now
    (st_node_tree c.index-node.result.now).args) = subst
    (λ (is : List ℕ). GrowsBy c.args.nl.now c.joined.new.nl (delay_load c.args.items.now c.waits_of-waits.result.now is)) c.deref-2.ensures.value
    c.in_ok-args.ensures.grows in
    let op : (st_node_tree c.index-node.result.now).op ≡ body c.in-Body.m = ap st_op_tree c.in-Body.is in
    let call = is_call instances within.number c.args.j c.in-Body.m within.at (st_func_tree c.instance-s.result.now)
    (st_node_tree c.index-node.result.now) c.arrivals_of-arrivals.result.now op h in
    let loads : (node_costs (all_costs (take within.number instances)) (item_layouts (st_func_tree c.instance-s.result.now))
    (st_node_tree c.index-node.result.now)).load ≡ 1 + (st_node_tree c.index-node.result.now).copies * (instance_costs
    instances c.in-Body.m).load = ap (λ (o : OwnCosts). o.load) call.1.costs in
    at_node instances within.number c.args.j (st_func_tree c.instance-s.result.now) (st_node_tree c.index-node.result.now) h.timing
    (λ u. GrowsBy c.args.nl.now c.lower_bodies.new.nl u.load) h.is_at
    (node_grows instances within.number c.args.j within.at (st_func_tree c.instance-s.result.now)
    (st_node_tree c.index-node.result.now) c.arrivals_of-arrivals.result.now c.waits_of-waits.result.now c.args.nl.now.cells c.args.items.now c.args.nl.now
    c.joined.new.nl c.lower_bodies.new.nl ((st_node_tree c.index-node.result.now).copies * (instance_costs instances c.in-Body.m).load)
    h (c.requires.items (st_func_tree c.instance-s.result.now) h.func) ew (omega (arith, loads)) delays c.in_ok-made-in-Body.ensures.grows)

pub lower_node-returns-in-Body-clause-spends : goal.lower_node-returns-in-Body-clause-spends
lower_node-returns-in-Body-clause-spends t c =
    let within = c.args.within.now in
    let instances = instances_of within.whole in
    let h = placed_in within.whole.program.now within.whole.timing.now.arrivals within.number c.args.j within.at c.instance-s.result.now c.index-node.result.now
    c.arrivals_of-arrivals.result.now c.requires.whole.timed c.requires.light c.instance-s.ensures c.requires.node c.index-node.ensures
    c.arrivals_of-arrivals.ensures in
    let op : (st_node_tree c.index-node.result.now).op ≡ body c.in-Body.m = ap st_op_tree c.in-Body.is in
    let call = is_call instances within.number c.args.j c.in-Body.m within.at (st_func_tree c.instance-s.result.now)
    (st_node_tree c.index-node.result.now) c.arrivals_of-arrivals.result.now op h in
    (let added = c.in_ok-made-in-Body.ensures.adds in at_node instances within.number c.args.j (st_func_tree c.instance-s.result.now)
    (st_node_tree c.index-node.result.now) h.timing (λ u. Spends c.args.nl.now c.lower_bodies.new.nl u.muls u.mems c.args.kept.now.left
    c.joined.new.kept.left) h.is_at
    (call_spends c.args.nl.now c.joined.new.nl c.lower_bodies.new.nl (st_node_tree c.index-node.result.now).copies
    (instance_costs instances c.in-Body.m)
    (node_costs (all_costs (take within.number instances)) (item_layouts (st_func_tree c.instance-s.result.now))
    (st_node_tree c.index-node.result.now)) h.timing c.args.kept.now.left c.joined.new.kept.left call.1.costs h.facts.muls h.facts.mems
    c.in_ok-args.ensures.spends added))

pub lower_node-returns-in-Body-clause-item : goal.lower_node-returns-in-Body-clause-item
lower_node-returns-in-Body-clause-item t c =
    let within = c.args.within.now in
    let instances = instances_of within.whole in
    let h = placed_in within.whole.program.now within.whole.timing.now.arrivals within.number c.args.j within.at c.instance-s.result.now c.index-node.result.now
    c.arrivals_of-arrivals.result.now c.requires.whole.timed c.requires.light c.instance-s.ensures c.requires.node c.index-node.ensures
    c.arrivals_of-arrivals.ensures in
    let ew = waits_in instances within.whole.slacks.now within.number c.args.j within.at (st_func_tree c.instance-s.result.now)
    (st_node_tree c.index-node.result.now) c.arrivals_of-arrivals.result.now c.waits_of-waits.result.now c.requires.whole.slacks h c.waits_of-waits.ensures in
    let start : c.start_of-start.result ≡ latest c.arrivals_of-arrivals.result.now (st_node_tree c.index-node.result.now).args = c.start_of-start.ensures ∙
    ap (latest c.arrivals_of-arrivals.result.now) c.deref.ensures.value in
    let late : AreDelayed c.args.nl.now.cells c.joined.new.nl.cells c.args.clocks.now.rst c.args.items.now c.waits_of-waits.result.now
    (st_node_tree c.index-node.result.now).args c.in_ok-args.args.items = subst
    (λ (is : List ℕ). AreDelayed c.args.nl.now.cells c.joined.new.nl.cells c.args.clocks.now.rst c.args.items.now c.waits_of-waits.result.now is
    c.in_ok-args.args.items) c.deref-2.ensures.value c.in_ok-args.ensures.delayed in
    let op : (st_node_tree c.index-node.result.now).op ≡ body c.in-Body.m = ap st_op_tree c.in-Body.is in
    let call = is_call instances within.number c.args.j c.in-Body.m within.at (st_func_tree c.instance-s.result.now)
    (st_node_tree c.index-node.result.now) c.arrivals_of-arrivals.result.now op h in
    let latency : (instance_costs instances c.in-Body.m).latency ≡ (node_costs (all_costs (take within.number instances))
    (item_layouts (st_func_tree c.instance-s.result.now)) (st_node_tree c.index-node.result.now)).latency = sym
    (ap (λ (o : OwnCosts). o.latency) call.1.costs) in
    (let y = c.in_ok-made-in-Body.made in let built = c.in_ok-made-in-Body.ensures.built in
    let bodies = built call.0 call.1.fits.slots call.1.fits.rounds call.1.called call.1.fits.few in
    let whole : IsBuilt c.lower_bodies.new.nl c.args.clocks.now.rst (within.at + c.start_of-start.result)
    (bodies_part (callees (take c.in-Body.m instances)) call.0 call.1.fits.slots call.1.fits.rounds
    (st_node_tree c.index-node.result.now).copies (instance_costs instances c.in-Body.m).latency) c.in_ok-args.args.items y =
    subst (λ (z : ℕ). IsBuilt c.lower_bodies.new.nl z (within.at + c.start_of-start.result)
    (bodies_part (callees (take c.in-Body.m instances)) call.0 call.1.fits.slots call.1.fits.rounds
    (st_node_tree c.index-node.result.now).copies (instance_costs instances c.in-Body.m).latency) c.in_ok-args.args.items y)
    c.in_ok-args.ensures.keeps.rst
    (subst (λ (bs : List (List NetId)). IsBuilt c.lower_bodies.new.nl c.joined.new.clocks.rst (within.at + c.start_of-start.result)
    (bodies_part (callees (take c.in-Body.m instances)) call.0 call.1.fits.slots call.1.fits.rounds
    (st_node_tree c.index-node.result.now).copies (instance_costs instances c.in-Body.m).latency) bs y) c.deref-in-Body.ensures.value
    bodies) in
    node_placed instances within.whole.timing.now.arrivals within.number c.args.j within.at c.args.clocks.now.rst (st_func_tree c.instance-s.result.now)
    (st_node_tree c.index-node.result.now) c.arrivals_of-arrivals.result.now c.waits_of-waits.result.now c.args.items.now c.in_ok-args.args.items
    c.args.nl.now c.joined.new.nl c.lower_bodies.new.nl
    (instance_costs instances c.in-Body.m).latency c.start_of-start.result y c.flows_fit.ensures c.requires.whole.timed h start ew latency
    c.in_ok-args.ensures.grows.grows.extends c.in_ok-made-in-Body.ensures.grows.grows.extends late
    (bodies_placed instances within.number c.in-Body.m (within.at + c.start_of-start.result) c.args.clocks.now.rst
    (st_func_tree c.instance-s.result.now) (st_node_tree c.index-node.result.now) call.0 c.in_ok-args.args.items c.lower_bodies.new.nl y
    c.requires.whole.timed.sound op call.1 whole))

pub lower_node-build-requires : goal.lower_node-build-requires
lower_node-build-requires t c =
    let within = c.args.within.now in
    let instances = instances_of within.whole in
    let h = placed_in within.whole.program.now within.whole.timing.now.arrivals within.number c.args.j within.at c.instance-s.result.now c.index-node.result.now
    c.arrivals_of-arrivals.result.now c.requires.whole.timed c.requires.light c.instance-s.ensures c.requires.node c.index-node.ensures
    c.arrivals_of-arrivals.ensures in
    let start : c.start_of-start.result ≡ latest c.arrivals_of-arrivals.result.now (st_node_tree c.index-node.result.now).args = c.start_of-start.ensures ∙
    ap (latest c.arrivals_of-arrivals.result.now) c.deref.ensures.value in
    let early : within.at + c.start_of-start.result ≤ 100000 = omega (arith, h.early, start) in
    let late : AreDelayed c.args.nl.now.cells c.joined.new.nl.cells c.args.clocks.now.rst c.args.items.now c.waits_of-waits.result.now
    (st_node_tree c.index-node.result.now).args c.in_ok-args.args.items = subst
    (λ (is : List ℕ). AreDelayed c.args.nl.now.cells c.joined.new.nl.cells c.args.clocks.now.rst c.args.items.now c.waits_of-waits.result.now is
    c.in_ok-args.args.items) c.deref-2.ensures.value c.in_ok-args.ensures.delayed in
    let bundles : AreBundles c.joined.new.nl.cells (streams_of (arguments_of (st_func_tree c.instance-s.result.now) (st_node_tree c.index-node.result.now)))
    c.deref-in-Word.result.now = subst (λ (bs : List (List NetId)). AreBundles c.joined.new.nl.cells
    (streams_of (arguments_of (st_func_tree c.instance-s.result.now) (st_node_tree c.index-node.result.now))) bs) (sym c.deref-in-Word.ensures.value)
    (args_stand c.args.nl.now.cells c.joined.new.nl.cells c.args.clocks.now.rst (st_func_tree c.instance-s.result.now)
    (length (st_func_tree c.instance-s.result.now).ins + c.args.j) c.args.items.now c.waits_of-waits.result.now
    (st_node_tree c.index-node.result.now).args c.in_ok-args.args.items (c.requires.items (st_func_tree c.instance-s.result.now) h.func) h.below late) in
    let ew = waits_in instances within.whole.slacks.now within.number c.args.j within.at (st_func_tree c.instance-s.result.now)
    (st_node_tree c.index-node.result.now) c.arrivals_of-arrivals.result.now c.waits_of-waits.result.now c.requires.whole.slacks h c.waits_of-waits.ensures in
    let delays : GrowsBy c.args.nl.now c.joined.new.nl (delay_load c.args.items.now c.waits_of-waits.result.now
    (st_node_tree c.index-node.result.now).args) = subst
    (λ (is : List ℕ). GrowsBy c.args.nl.now c.joined.new.nl (delay_load c.args.items.now c.waits_of-waits.result.now is)) c.deref-2.ensures.value
    c.in_ok-args.ensures.grows in
    let plain = calls_nothing c.index-node.result.now.op (λ k e. grind (arith, c.in-Word.is, e)) in
    let same : plain_costs (st_func_tree c.instance-s.result.now)
    (st_node_tree c.index-node.result.now) ≡ (node_costs (all_costs (take within.number instances))
    (item_layouts (st_func_tree c.instance-s.result.now)) (st_node_tree c.index-node.result.now)) = plain_is
    (all_costs (take within.number instances)) (st_func_tree c.instance-s.result.now) (st_node_tree c.index-node.result.now) plain in
    let loads : (plain_costs (st_func_tree c.instance-s.result.now) (st_node_tree c.index-node.result.now)).load ≡ (node_costs
    (all_costs (take within.number instances)) (item_layouts (st_func_tree c.instance-s.result.now))
    (st_node_tree c.index-node.result.now)).load = ap (λ (o : OwnCosts). o.load) same in
    let fits = node_fits instances within.number c.args.j within.at (st_func_tree c.instance-s.result.now)
    (st_node_tree c.index-node.result.now) c.arrivals_of-arrivals.result.now c.waits_of-waits.result.now c.args.nl.now.cells c.args.items.now
    (plain_costs (st_func_tree c.instance-s.result.now) (st_node_tree c.index-node.result.now)).load h
    (c.requires.items (st_func_tree c.instance-s.result.now) h.func) ew (omega (arith, loads)) in
    let room = c.requires.room (st_func_tree c.instance-s.result.now) (st_node_tree c.index-node.result.now) h.timing h.is_at in
    record {
      belongs = c.in_ok-args.ensures.belongs;
      ready = node_ready instances within.number c.args.j within.at (st_func_tree c.instance-s.result.now)
          (st_node_tree c.index-node.result.now) c.arrivals_of-arrivals.result.now c.joined.new.nl.cells c.deref-in-Word.result.now h bundles;
      plain = plain;
      early = early;
      room = room_behind _ fits delays room;
    }

pub lower_node-returns : goal.lower_node-returns
lower_node-returns t c =
    let within = c.args.within.now in
    let instances = instances_of within.whole in
    let h = placed_in within.whole.program.now within.whole.timing.now.arrivals within.number c.args.j within.at c.instance-s.result.now c.index-node.result.now
    c.arrivals_of-arrivals.result.now c.requires.whole.timed c.requires.light c.instance-s.ensures c.requires.node c.index-node.ensures
    c.arrivals_of-arrivals.ensures in
    let ew = waits_in instances within.whole.slacks.now within.number c.args.j within.at (st_func_tree c.instance-s.result.now)
    (st_node_tree c.index-node.result.now) c.arrivals_of-arrivals.result.now c.waits_of-waits.result.now c.requires.whole.slacks h c.waits_of-waits.ensures in
    let start : c.start_of-start.result ≡ latest c.arrivals_of-arrivals.result.now (st_node_tree c.index-node.result.now).args = c.start_of-start.ensures ∙
    ap (latest c.arrivals_of-arrivals.result.now) c.deref.ensures.value in
    let delays : GrowsBy c.args.nl.now c.joined.new.nl (delay_load c.args.items.now c.waits_of-waits.result.now
    (st_node_tree c.index-node.result.now).args) = subst
    (λ (is : List ℕ). GrowsBy c.args.nl.now c.joined.new.nl (delay_load c.args.items.now c.waits_of-waits.result.now is)) c.deref-2.ensures.value
    c.in_ok-args.ensures.grows in
    let late : AreDelayed c.args.nl.now.cells c.joined.new.nl.cells c.args.clocks.now.rst c.args.items.now c.waits_of-waits.result.now
    (st_node_tree c.index-node.result.now).args c.in_ok-args.args.items = subst
    (λ (is : List ℕ). AreDelayed c.args.nl.now.cells c.joined.new.nl.cells c.args.clocks.now.rst c.args.items.now c.waits_of-waits.result.now is
    c.in_ok-args.args.items) c.deref-2.ensures.value c.in_ok-args.ensures.delayed in
    let plain = calls_nothing c.index-node.result.now.op (λ k e. grind (arith, c.in-Word.is, e)) in
    let same : plain_costs (st_func_tree c.instance-s.result.now)
    (st_node_tree c.index-node.result.now) ≡ (node_costs (all_costs (take within.number instances))
    (item_layouts (st_func_tree c.instance-s.result.now)) (st_node_tree c.index-node.result.now)) = plain_is
    (all_costs (take within.number instances)) (st_func_tree c.instance-s.result.now) (st_node_tree c.index-node.result.now) plain in
    let loads : (plain_costs (st_func_tree c.instance-s.result.now) (st_node_tree c.index-node.result.now)).load ≡ (node_costs
    (all_costs (take within.number instances)) (item_layouts (st_func_tree c.instance-s.result.now))
    (st_node_tree c.index-node.result.now)).load = ap (λ (o : OwnCosts). o.load) same in
    record {
      belongs = c.in_ok-made-in-Word.ensures.belongs;
      keeps = keeps_trans c.in_ok-args.ensures.keeps c.in_ok-made-in-Word.ensures.keeps;
      grows = at_node instances within.number c.args.j (st_func_tree c.instance-s.result.now) (st_node_tree c.index-node.result.now) h.timing
          (λ u. GrowsBy c.args.nl.now c.build.new.nl u.load) h.is_at
          (node_grows instances within.number c.args.j within.at (st_func_tree c.instance-s.result.now)
          (st_node_tree c.index-node.result.now) c.arrivals_of-arrivals.result.now c.waits_of-waits.result.now c.args.nl.now.cells c.args.items.now
          c.args.nl.now c.joined.new.nl c.build.new.nl (plain_costs (st_func_tree c.instance-s.result.now) (st_node_tree c.index-node.result.now)).load h
          (c.requires.items (st_func_tree c.instance-s.result.now) h.func) ew (omega (arith, loads)) delays c.in_ok-made-in-Word.ensures.grows);
      rings = (let added = c.in_ok-made-in-Word.ensures.adds in rings_grow c.in_ok-made-in-Word.ensures.grows.grows.extends c.in_ok-args.ensures.rings);
      spends = (let added = c.in_ok-made-in-Word.ensures.adds in at_node instances within.number c.args.j (st_func_tree c.instance-s.result.now)
          (st_node_tree c.index-node.result.now) h.timing (λ u. Spends c.args.nl.now c.build.new.nl u.muls u.mems c.args.kept.now.left c.joined.new.kept.left)
          h.is_at
          (plain_spends c.args.nl.now c.joined.new.nl c.build.new.nl
          (plain_costs (st_func_tree c.instance-s.result.now) (st_node_tree c.index-node.result.now))
          (node_costs (all_costs (take within.number instances)) (item_layouts (st_func_tree c.instance-s.result.now))
          (st_node_tree c.index-node.result.now)) h.timing c.args.kept.now.left c.joined.new.kept.left same h.facts.muls h.facts.mems
          c.in_ok-args.ensures.spends added));
      sections = (let added = c.in_ok-made-in-Word.ensures.adds in λ h_old.
          let there : c.args.j < length (st_func_tree c.instance-s.result.now).nodes = slice_get_within (st_func_tree c.instance-s.result.now).nodes c.args.j
          (st_node_tree c.index-node.result.now) h.node in
          let front : length c.args.nl.now.cells ≤ length c.joined.new.nl.cells = extends_length c.args.nl.now.cells c.joined.new.nl.cells
          c.in_ok-args.ensures.grows.grows.extends in
          let back : length c.joined.new.nl.cells ≤ length c.build.new.nl.cells = extends_length c.joined.new.nl.cells c.build.new.nl.cells
          c.in_ok-made-in-Word.ensures.grows.grows.extends in
          sections_begun {Of = IsSectionFor instances within.number c.args.j} (length c.args.nl.now.cells) (length c.build.new.nl.cells)
          (record { cell = c.len-cell.result; instance = within.number; node = c.args.j })
          c.args.sections.now.items c.begin.new.sections.items c.in_ok-begin.ensures.ok c.len-cell.ensures (omega (arith, front, back)) h_old
          (own_section instances within.number c.args.j (st_func_tree c.instance-s.result.now) _ h.func (omega (arith, there)) refl refl));
      item = (let y = c.in_ok-made-in-Word.made in let built = c.in_ok-made-in-Word.ensures.built in
          let bare = built (callees (take within.number instances)) in
          let whole : IsBuilt c.build.new.nl c.args.clocks.now.rst (within.at + c.start_of-start.result)
          (node_part (callees (take within.number instances))
          (plain_costs (st_func_tree c.instance-s.result.now) (st_node_tree c.index-node.result.now)).latency (st_func_tree c.instance-s.result.now)
          (st_node_tree c.index-node.result.now)) c.in_ok-args.args.items y =
          subst (λ (z : ℕ). IsBuilt c.build.new.nl z (within.at + c.start_of-start.result)
          (node_part (callees (take within.number instances))
          (plain_costs (st_func_tree c.instance-s.result.now) (st_node_tree c.index-node.result.now)).latency (st_func_tree c.instance-s.result.now)
          (st_node_tree c.index-node.result.now)) c.in_ok-args.args.items y) c.in_ok-args.ensures.keeps.rst
          (subst (λ (bs : List (List NetId)). IsBuilt c.build.new.nl c.joined.new.clocks.rst (within.at + c.start_of-start.result)
          (node_part (callees (take within.number instances))
          (plain_costs (st_func_tree c.instance-s.result.now) (st_node_tree c.index-node.result.now)).latency (st_func_tree c.instance-s.result.now)
          (st_node_tree c.index-node.result.now)) bs y) c.deref-in-Word.ensures.value bare) in
          node_placed instances within.whole.timing.now.arrivals within.number c.args.j within.at c.args.clocks.now.rst
          (st_func_tree c.instance-s.result.now) (st_node_tree c.index-node.result.now) c.arrivals_of-arrivals.result.now c.waits_of-waits.result.now
          c.args.items.now c.in_ok-args.args.items c.args.nl.now c.joined.new.nl c.build.new.nl
          (plain_costs (st_func_tree c.instance-s.result.now) (st_node_tree c.index-node.result.now)).latency c.start_of-start.result y c.flows_fit.ensures
          c.requires.whole.timed h start ew (ap (λ (o : OwnCosts). o.latency) same)
          c.in_ok-args.ensures.grows.grows.extends c.in_ok-made-in-Word.ensures.grows.grows.extends late whole);
    }
