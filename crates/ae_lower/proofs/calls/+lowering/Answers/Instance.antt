-- One instance: its nodes, each behind those before it, and then its results.
use Rattle.std.proofs.Common.{◌≡◌, ◌+◌, ◌-◌, ◌<◌, ◌≤◌, ◌++◌, ◌∷◌, [], List, take, get_or, arith, ap, sym, refl, ◌∙◌, subst, length, ℕ, ◌*◌}
use Rattle.std.proofs.lemmas.List.{length-map}
use Rattle.std.proofs.lemmas.Option.{same_Some}
use Rattle.ae_netlist.specs.declared.cell.NetId.{NetId}
use Rattle.ae_clocked.proofs.InRow.{keeps_trans}
use Rattle.ae_rewrite.specs.StProgramTree.{StFuncTree, st_func_tree, st_node_tree}
use Rattle.ae_flow.specs.Flow.{callees}
use Rattle.ae_lower.specs.Growth.{GrowsBy}
use Rattle.ae_lower.specs.Delaying.{AreDelayed, delay_load}
use Rattle.ae_lower.specs.Lowering.{AreItems, AreStanding, IsItem, arrivals_in, instances_of, timings_in}
use Rattle.ae_lower.specs.Stretches.{AreNodeCells, results_load}
use Rattle.ae_lower.proofs.Growing.{keeps_none, spends_none, room_behind}
use Rattle.ae_lower.proofs.Instances.{AreLowered, HaveSpent, more_nodes, more_spent, no_nodes, standing}
use Rattle.ae_lower.proofs.Placed.{chains_in, func_tree, result_waits_in, at_node}
use Rattle.ae_tidy.specs.Places.{AreMarks}
use Rattle.ae_tidy.proofs.Placing.{marks_later, marks_more}
use Rattle.ae_netlist.proofs.Growing.{extends_length}
use Rattle.ae_lower.proofs.Ending.{node_there, result_below, results_add, results_chosen, results_fit, results_grow}
use Rattle.ae_lower.specs.Sections.{IsSectionWithin}
use Rattle.ae_lower.proofs.Covering.{own_section, sections_begun, sections_none, sections_of, sections_trans}
use Rattle.ae_lower.proofs.Stretches.{marked_end, marked_more, marked_none, results_late}
use Rattle.ae_clocked.specs.KeptRings.{RingsBelong}
use Rattle.ae_clocked.proofs.Keeping.{no_rings}
use Rattle.ae_lower.proofs.Waiting.{left_first}
use Rattle.ae_netlist.specs.Room.{HasRoom}
use Rattle.ae_lower.proofs.calls.+lowering.Goals as goal

pub lower_instance-lower_node-requires : goal.lower_instance-lower_node-requires
lower_instance-lower_node-requires t c =
    let instances = instances_of c.args.whole.now in
    let found = func_tree c.args.whole.now.program.now c.args.k c.instance-s.result.now c.instance-s.ensures in
    let there : c.loop-j.j < length (st_func_tree c.instance-s.result.now).nodes = omega (
      arith,
      c.loop-j-test.true,
      c.len-j-end.ensures,
      c.instance-s.result.now.nodes.ok,
      length-map c.instance-s.result.now.nodes.items st_node_tree,
    ) in
    let stand = standing c.loop-j.nl.cells c.args.clocks.now.rst c.args.at (callees (take c.args.k instances))
    (st_func_tree c.instance-s.result.now) (arrivals_in instances c.args.k (st_func_tree c.instance-s.result.now)) c.args.ins.now
    (length (st_func_tree c.instance-s.result.now).ins + c.loop-j.j) c.loop-j.items.items c.loop-j.invariant.lowered.have in
    let own = node_there instances c.args.k c.loop-j.j (st_func_tree c.instance-s.result.now) found there in
    let rings : RingsBelong c.loop-j.kept c.loop-j.clocks.rst c.loop-j.nl.cells = rw c.loop-j.invariant.keeps.rst c.loop-j.invariant.rings in
    let asked : AreStanding c.loop-j.nl.cells (st_func_tree c.instance-s.result.now)
    (length (st_func_tree c.instance-s.result.now).ins + c.loop-j.j) c.deref.result.now = subst
    (λ (xs : List (List NetId)). AreStanding c.loop-j.nl.cells (st_func_tree c.instance-s.result.now)
    (length (st_func_tree c.instance-s.result.now).ins + c.loop-j.j) xs) (sym c.deref.ensures.value) stand in (
      omega (arith, c.decreases),
      (
        c.loop-j.invariant.belongs,
        (
          rings,
          (
            c.requires.whole,
            (
              c.requires.light,
              (
                (λ z at. subst (λ (f : StFuncTree). c.loop-j.j < length f.nodes) (same_Some (st_func_tree c.instance-s.result.now) z (sym found ∙ at)) there),
                (
                  (λ z at. subst (λ (f : StFuncTree). AreStanding c.loop-j.nl.cells f (length f.ins + c.loop-j.j) c.deref.result.now)
                      (same_Some (st_func_tree c.instance-s.result.now) z (sym found ∙ at)) asked),
                  at_node instances c.args.k c.loop-j.j (st_func_tree c.instance-s.result.now) own.node own.timing
                      (λ u. HasRoom c.loop-j.nl (16 * u.load)) own.is_at (room_behind _ own.most c.loop-j.invariant.lowered.grows c.requires.room),
                ),
              ),
            ),
          ),
        ),
      ),
    )

pub lower_instance-joined-requires-clause-below : goal.lower_instance-joined-requires-clause-below
lower_instance-joined-requires-clause-below t c = λ r i f.
    let end : c.loop-j.j ≡ length (st_func_tree c.instance-s.result.now).nodes = omega (
      arith,
      c.loop-j-test.false,
      c.loop-j.auto.j-end,
      c.len-j-end.ensures,
      c.instance-s.result.now.nodes.ok,
      length-map c.instance-s.result.now.nodes.items st_node_tree,
    ) in
    let l = result_below (instances_of c.args.whole.now) c.args.k (st_func_tree c.instance-s.result.now) c.deref-3.result.now c.requires.whole.timed.sound
    (func_tree c.args.whole.now.program.now c.args.k c.instance-s.result.now c.instance-s.ensures) c.deref-3.ensures.value r i f in
    omega (arith, l, end, c.loop-j.invariant.lowered.have.long, ap length c.deref-2.ensures.value)

pub lower_instance-joined-requires-clause-room : goal.lower_instance-joined-requires-clause-room
lower_instance-joined-requires-clause-room t c =
    let instances = instances_of c.args.whole.now in
    let func = func_tree c.args.whole.now.program.now c.args.k c.instance-s.result.now c.instance-s.ensures in
    let ew = result_waits_in c.args.whole.now.program.now c.args.whole.now.slacks.now c.args.k c.instance-s.result.now c.result_waits_of-waits.result.now
    c.requires.whole.slacks
    c.instance-s.ensures c.result_waits_of-waits.ensures in
    let end : c.loop-j.j ≡ length (st_func_tree c.instance-s.result.now).nodes = omega (
      arith,
      c.loop-j-test.false,
      c.loop-j.auto.j-end,
      c.len-j-end.ensures,
      c.instance-s.result.now.nodes.ok,
      length-map c.instance-s.result.now.nodes.items st_node_tree,
    ) in
    let all : AreLowered instances c.args.k c.args.at c.args.clocks.now.rst
    (st_func_tree c.instance-s.result.now) c.args.ins.now c.args.nl.now c.loop-j.nl
    (length (st_func_tree c.instance-s.result.now).nodes) c.loop-j.items.items = subst
    (λ (i : ℕ). AreLowered instances c.args.k c.args.at c.args.clocks.now.rst
    (st_func_tree c.instance-s.result.now) c.args.ins.now c.args.nl.now c.loop-j.nl i c.loop-j.items.items) end c.loop-j.invariant.lowered in
    let fits = results_fit instances c.args.k c.args.at c.args.clocks.now.rst
    (st_func_tree c.instance-s.result.now) c.args.ins.now c.loop-j.items.items c.args.nl.now c.loop-j.nl c.result_waits_of-waits.result.now
    c.requires.whole.timed.sound func ew all in
    let room : HasRoom c.loop-j.nl (16 * delay_load c.loop-j.items.items c.result_waits_of-waits.result.now
    (st_func_tree c.instance-s.result.now).results) = room_behind _ fits all.grows c.requires.room in
    subst (λ (xs : List (List NetId)). HasRoom c.loop-j.nl (16 * delay_load xs c.result_waits_of-waits.result.now c.deref-3.result.now))
    (sym c.deref-2.ensures.value)
    (subst (λ (is : List ℕ). HasRoom c.loop-j.nl (16 * delay_load c.loop-j.items.items c.result_waits_of-waits.result.now is))
    (sym c.deref-3.ensures.value) room)

pub lower_instance-returns-clause-grows : goal.lower_instance-returns-clause-grows
lower_instance-returns-clause-grows t c =
    let instances = instances_of c.args.whole.now in
    let ew = result_waits_in c.args.whole.now.program.now c.args.whole.now.slacks.now c.args.k c.instance-s.result.now c.result_waits_of-waits.result.now
    c.requires.whole.slacks
    c.instance-s.ensures c.result_waits_of-waits.ensures in
    let end : c.loop-j.j ≡ length (st_func_tree c.instance-s.result.now).nodes = omega (
      arith,
      c.loop-j-test.false,
      c.loop-j.auto.j-end,
      c.len-j-end.ensures,
      c.instance-s.result.now.nodes.ok,
      length-map c.instance-s.result.now.nodes.items st_node_tree,
    ) in
    let all : AreLowered instances c.args.k c.args.at c.args.clocks.now.rst
    (st_func_tree c.instance-s.result.now) c.args.ins.now c.args.nl.now c.loop-j.nl
    (length (st_func_tree c.instance-s.result.now).nodes) c.loop-j.items.items = subst
    (λ (i : ℕ). AreLowered instances c.args.k c.args.at c.args.clocks.now.rst
    (st_func_tree c.instance-s.result.now) c.args.ins.now c.args.nl.now c.loop-j.nl i c.loop-j.items.items) end c.loop-j.invariant.lowered in
    let grown : GrowsBy c.loop-j.nl c.joined.new.nl (delay_load c.loop-j.items.items c.result_waits_of-waits.result.now
    (st_func_tree c.instance-s.result.now).results) = subst
    (λ (xs : List (List NetId)). GrowsBy c.loop-j.nl c.joined.new.nl
    (delay_load xs c.result_waits_of-waits.result.now (st_func_tree c.instance-s.result.now).results)) c.deref-2.ensures.value
    (subst (λ (is : List ℕ). GrowsBy c.loop-j.nl c.joined.new.nl (delay_load c.deref-2.result.now c.result_waits_of-waits.result.now is))
    c.deref-3.ensures.value c.in_ok-results.ensures.grows) in
    results_grow instances c.args.k c.args.at c.args.clocks.now.rst
    (st_func_tree c.instance-s.result.now) c.args.ins.now c.loop-j.items.items c.args.nl.now c.loop-j.nl c.joined.new.nl c.result_waits_of-waits.result.now
    c.requires.whole.timed.sound (func_tree c.args.whole.now.program.now c.args.k c.instance-s.result.now c.instance-s.ensures) ew all grown

pub lower_instance-returns-clause-adds : goal.lower_instance-returns-clause-adds
lower_instance-returns-clause-adds t c =
    let instances = instances_of c.args.whole.now in
    let func = func_tree c.args.whole.now.program.now c.args.k c.instance-s.result.now c.instance-s.ensures in
    let end : c.loop-j.j ≡ length (st_func_tree c.instance-s.result.now).nodes = omega (
      arith,
      c.loop-j-test.false,
      c.loop-j.auto.j-end,
      c.len-j-end.ensures,
      c.instance-s.result.now.nodes.ok,
      length-map c.instance-s.result.now.nodes.items st_node_tree,
    ) in
    let all : HaveSpent instances c.args.k (st_func_tree c.instance-s.result.now) c.args.nl.now c.loop-j.nl
    (length (st_func_tree c.instance-s.result.now).nodes) c.waiting_memories-most.result c.loop-j.kept.left =
    subst (λ (i : ℕ). HaveSpent instances c.args.k
    (st_func_tree c.instance-s.result.now) c.args.nl.now c.loop-j.nl i c.waiting_memories-most.result c.loop-j.kept.left) end c.loop-j.invariant.spent in
    let are = chains_in instances c.args.whole.now.slacks.now c.args.k
    (st_func_tree c.instance-s.result.now) c.chains_of-chains.result.now c.requires.whole.slacks func c.chains_of-chains.ensures in
    let few = left_first instances c.args.k
    (st_func_tree c.instance-s.result.now) c.chains_of-chains.result.now c.waiting_memories-most.result c.requires.whole.timed.sound func are
    c.waiting_memories-most.ensures in
    (let added = c.in_ok-results.ensures.spends in results_add instances c.args.k
    (st_func_tree c.instance-s.result.now) c.args.nl.now c.loop-j.nl c.joined.new.nl c.waiting_memories-most.result c.loop-j.kept.left
    c.joined.new.kept.left func few all added)

pub lower_instance-returns-clause-results : goal.lower_instance-returns-clause-results
lower_instance-returns-clause-results t c =
    let instances = instances_of c.args.whole.now in
    let ew = result_waits_in c.args.whole.now.program.now c.args.whole.now.slacks.now c.args.k c.instance-s.result.now c.result_waits_of-waits.result.now
    c.requires.whole.slacks
    c.instance-s.ensures c.result_waits_of-waits.ensures in
    let end : c.loop-j.j ≡ length (st_func_tree c.instance-s.result.now).nodes = omega (
      arith,
      c.loop-j-test.false,
      c.loop-j.auto.j-end,
      c.len-j-end.ensures,
      c.instance-s.result.now.nodes.ok,
      length-map c.instance-s.result.now.nodes.items st_node_tree,
    ) in
    let all : AreLowered instances c.args.k c.args.at c.args.clocks.now.rst
    (st_func_tree c.instance-s.result.now) c.args.ins.now c.args.nl.now c.loop-j.nl
    (length (st_func_tree c.instance-s.result.now).nodes) c.loop-j.items.items = subst
    (λ (i : ℕ). AreLowered instances c.args.k c.args.at c.args.clocks.now.rst
    (st_func_tree c.instance-s.result.now) c.args.ins.now c.args.nl.now c.loop-j.nl i c.loop-j.items.items) end c.loop-j.invariant.lowered in
    (let v = c.in_ok-results.results in let late = c.in_ok-results.ensures.delayed in
    let given : AreDelayed c.loop-j.nl.cells c.joined.new.nl.cells c.args.clocks.now.rst c.loop-j.items.items c.result_waits_of-waits.result.now
    (st_func_tree c.instance-s.result.now).results v.items =
    subst (λ (z : ℕ). AreDelayed c.loop-j.nl.cells c.joined.new.nl.cells z c.loop-j.items.items c.result_waits_of-waits.result.now
    (st_func_tree c.instance-s.result.now).results v.items) c.loop-j.invariant.keeps.rst
    (subst (λ (xs : List (List NetId)). AreDelayed c.loop-j.nl.cells c.joined.new.nl.cells c.loop-j.clocks.rst xs c.result_waits_of-waits.result.now
    (st_func_tree c.instance-s.result.now).results v.items) c.deref-2.ensures.value
    (subst (λ (is : List ℕ). AreDelayed c.loop-j.nl.cells c.joined.new.nl.cells c.loop-j.clocks.rst c.deref-2.result.now c.result_waits_of-waits.result.now is
    v.items) c.deref-3.ensures.value late)) in
    results_chosen instances c.args.k c.args.at c.args.clocks.now.rst
    (st_func_tree c.instance-s.result.now) c.args.ins.now c.loop-j.items.items c.args.nl.now c.loop-j.nl c.joined.new.nl c.result_waits_of-waits.result.now
    v.items c.requires.whole.timed.sound (func_tree c.args.whole.now.program.now c.args.k c.instance-s.result.now c.instance-s.ensures) ew all
    c.in_ok-results.ensures.grows.grows.extends given)

pub lower_instance-returns-clause-marks : goal.lower_instance-returns-clause-marks
lower_instance-returns-clause-marks t c =
    let here = func_tree c.args.whole.now.program.now c.args.k c.instance-s.result.now c.instance-s.ensures in
    let end : c.loop-j.j ≡ length (st_func_tree c.instance-s.result.now).nodes = omega (
      arith,
      c.loop-j-test.false,
      c.loop-j.auto.j-end,
      c.len-j-end.ensures,
      c.instance-s.result.now.nodes.ok,
      length-map c.instance-s.result.now.nodes.items st_node_tree,
    ) in
    let longer : length c.loop-j.nl.cells ≤ length c.joined.new.nl.cells = extends_length c.loop-j.nl.cells c.joined.new.nl.cells
    c.in_ok-results.ensures.grows.grows.extends in
    (let added = c.in_ok-results.ensures.spends in λ z count found h.
    let all : AreMarks (length c.loop-j.nl.cells) (count + length (st_func_tree c.instance-s.result.now).nodes) c.loop-j.marks.items = subst
    (λ (i : ℕ). AreMarks (length c.loop-j.nl.cells) (count + i) c.loop-j.marks.items) end (c.loop-j.invariant.marked count h) in
    marks_later (length c.loop-j.nl.cells) (length c.joined.new.nl.cells) (count + length z.nodes) c.loop-j.marks.items longer
    (subst (λ (f : StFuncTree). AreMarks (length c.loop-j.nl.cells) (count + length f.nodes) c.loop-j.marks.items)
    (same_Some (st_func_tree c.instance-s.result.now) z (sym here ∙ found)) all))

pub lower_instance-returns-clause-nodes : goal.lower_instance-returns-clause-nodes
lower_instance-returns-clause-nodes t c =
    let instances = instances_of c.args.whole.now in
    let s = st_func_tree c.instance-s.result.now in
    let here = func_tree c.args.whole.now.program.now c.args.k c.instance-s.result.now c.instance-s.ensures in
    let ew = result_waits_in c.args.whole.now.program.now c.args.whole.now.slacks.now c.args.k c.instance-s.result.now c.result_waits_of-waits.result.now
    c.requires.whole.slacks
    c.instance-s.ensures c.result_waits_of-waits.ensures in
    let end : c.loop-j.j ≡ length (st_func_tree c.instance-s.result.now).nodes = omega (
      arith,
      c.loop-j-test.false,
      c.loop-j.auto.j-end,
      c.len-j-end.ensures,
      c.instance-s.result.now.nodes.ok,
      length-map c.instance-s.result.now.nodes.items st_node_tree,
    ) in
    let all : AreLowered instances c.args.k c.args.at c.args.clocks.now.rst
    (st_func_tree c.instance-s.result.now) c.args.ins.now c.args.nl.now c.loop-j.nl
    (length (st_func_tree c.instance-s.result.now).nodes) c.loop-j.items.items = subst
    (λ (i : ℕ). AreLowered instances c.args.k c.args.at c.args.clocks.now.rst
    (st_func_tree c.instance-s.result.now) c.args.ins.now c.args.nl.now c.loop-j.nl i c.loop-j.items.items) end c.loop-j.invariant.lowered in
    let grown : GrowsBy c.loop-j.nl c.joined.new.nl (delay_load c.loop-j.items.items c.result_waits_of-waits.result.now
    (st_func_tree c.instance-s.result.now).results) = subst
    (λ (xs : List (List NetId)). GrowsBy c.loop-j.nl c.joined.new.nl
    (delay_load xs c.result_waits_of-waits.result.now (st_func_tree c.instance-s.result.now).results)) c.deref-2.ensures.value
    (subst (λ (is : List ℕ). GrowsBy c.loop-j.nl c.joined.new.nl (delay_load c.deref-2.result.now c.result_waits_of-waits.result.now is))
    c.deref-3.ensures.value c.in_ok-results.ensures.grows) in
    let late : GrowsBy c.loop-j.nl c.joined.new.nl (results_load instances c.args.k s) =
    subst (λ (n : ℕ). GrowsBy c.loop-j.nl c.joined.new.nl n)
    (results_late instances c.args.k c.args.at c.args.clocks.now.rst s c.args.ins.now c.loop-j.items.items c.args.nl.now c.loop-j.nl
    c.result_waits_of-waits.result.now c.requires.whole.timed.sound here ew all) grown in
    (let added = c.in_ok-results.ensures.spends in λ z found e.
    subst (λ (f : StFuncTree). AreNodeCells instances c.args.k f c.joined.new.nl.cells (length c.args.nl.now.cells) c.loop-j.marks.items)
    (same_Some s z (sym here ∙ found))
    (marked_end c.args.nl.now c.loop-j.nl c.joined.new.nl (timings_in instances c.args.k s) c.loop-j.j
    (results_load instances c.args.k s) c.loop-j.marks.items late added.muls (c.loop-j.invariant.nodes e)))

pub lower_instance-returns-clause-sections : goal.lower_instance-returns-clause-sections
lower_instance-returns-clause-sections t c =
    let instances = instances_of c.args.whole.now in
    let func = func_tree c.args.whole.now.program.now c.args.k c.instance-s.result.now c.instance-s.ensures in
    let front : length c.args.nl.now.cells ≤ length c.loop-j.nl.cells = extends_length c.args.nl.now.cells c.loop-j.nl.cells
    c.loop-j.invariant.lowered.grows.grows.extends in
    let back : length c.loop-j.nl.cells ≤ length c.joined.new.nl.cells = extends_length c.loop-j.nl.cells c.joined.new.nl.cells
    c.in_ok-results.ensures.grows.grows.extends in
    let there : c.len-node.result ≤ length (st_func_tree c.instance-s.result.now).nodes = omega (
      arith,
      c.len-node.ensures,
      c.instance-s.result.now.nodes.ok,
      length-map c.instance-s.result.now.nodes.items st_node_tree,
    ) in
    (let added = c.in_ok-results.ensures.spends in λ h.
    let was = c.loop-j.invariant.sections h in
    let last = sections_begun {Of = IsSectionWithin instances c.args.k} (length c.loop-j.nl.cells) (length c.joined.new.nl.cells)
    (record { cell = c.len-cell.result; instance = c.args.k; node = c.len-node.result })
    c.loop-j.sections.items c.begin.new.sections.items c.in_ok-begin.ensures.ok c.len-cell.ensures back was.are
    (record {
      node = c.len-node.result;
      is = own_section instances c.args.k c.len-node.result
          (st_func_tree c.instance-s.result.now) _ func there refl refl;
    }) in
    sections_trans (length c.args.nl.now.cells) (length c.loop-j.nl.cells)
    (length c.joined.new.nl.cells) c.args.sections.now.items c.loop-j.sections.items c.begin.new.sections.items front was last)

pub lower_instance-loop-j-init : goal.lower_instance-loop-j-init
lower_instance-loop-j-init t c = record {
  belongs = c.requires.belongs;
  keeps = keeps_none c.args.clocks.now;
  rings = rw c.new-kept.ensures (no_rings _ _ _ refl);
  spent = rw c.new-kept.ensures (spends_none c.args.nl.now c.waiting_memories-most.result);
  lowered = no_nodes (instances_of c.args.whole.now) c.args.k c.args.at c.args.clocks.now.rst
      (st_func_tree c.instance-s.result.now) c.args.ins.now c.in_ok-items.items.items c.args.nl.now
      (c.requires.ins (st_func_tree c.instance-s.result.now) (func_tree c.args.whole.now.program.now c.args.k c.instance-s.result.now c.instance-s.ensures))
      c.in_ok-items.ensures.ok;
  marked = λ count h. subst (λ (i : ℕ). AreMarks (length c.args.nl.now.cells) i c.args.marks.now.items) (let same : count ≡ count + 0 = omega arith in same) h;
  nodes = λ e. marked_none c.args.nl.now (timings_in (instances_of c.args.whole.now) c.args.k (st_func_tree c.instance-s.result.now)) c.args.marks.now.items e;
  sections = λ h. sections_none (length c.args.nl.now.cells) c.args.sections.now.items h;
}

pub lower_instance-loop-j-preserved : goal.lower_instance-loop-j-preserved
lower_instance-loop-j-preserved t c =
    let instances = instances_of c.args.whole.now in
    let found = func_tree c.args.whole.now.program.now c.args.k c.instance-s.result.now c.instance-s.ensures in
    let there : c.loop-j.j < length (st_func_tree c.instance-s.result.now).nodes = omega (
      arith,
      c.loop-j-test.true,
      c.len-j-end.ensures,
      c.instance-s.result.now.nodes.ok,
      length-map c.instance-s.result.now.nodes.items st_node_tree,
    ) in
    let node = node_there instances c.args.k c.loop-j.j (st_func_tree c.instance-s.result.now) found there in
    let made = c.in_ok-made.ensures.item (st_func_tree c.instance-s.result.now) c.args.ins.now found
    (subst (λ (xs : List (List NetId)). AreItems c.loop-j.nl.cells c.loop-j.clocks.rst c.args.at (callees (take c.args.k instances))
    (st_func_tree c.instance-s.result.now) (arrivals_in instances c.args.k (st_func_tree c.instance-s.result.now)) c.args.ins.now
    (length (st_func_tree c.instance-s.result.now).ins + c.loop-j.j) xs) (sym c.deref.ensures.value)
    (subst (λ (z : ℕ). AreItems c.loop-j.nl.cells z c.args.at (callees (take c.args.k instances)) (st_func_tree c.instance-s.result.now)
    (arrivals_in instances c.args.k (st_func_tree c.instance-s.result.now)) c.args.ins.now
    (length (st_func_tree c.instance-s.result.now).ins + c.loop-j.j) c.loop-j.items.items)
    (sym c.loop-j.invariant.keeps.rst) c.loop-j.invariant.lowered.have)) in
    record {
      belongs = c.in_ok-made.ensures.belongs;
      keeps = keeps_trans c.loop-j.invariant.keeps c.in_ok-made.ensures.keeps;
      rings = rw c.loop-j.invariant.keeps.rst at c.in_ok-made.ensures.rings;
      spent = more_spent instances c.args.k
          (st_func_tree c.instance-s.result.now) c.args.nl.now c.loop-j.nl c.lower_node.new.nl c.loop-j.j c.waiting_memories-most.result c.loop-j.kept.left
          c.lower_node.new.kept.left node.timing
          node.is_at.timing (c.in_ok-made.ensures.spends (st_func_tree c.instance-s.result.now) node.node node.timing node.is_at) c.loop-j.invariant.spent;
      lowered = more_nodes instances c.args.k c.args.at c.args.clocks.now.rst
          (st_func_tree c.instance-s.result.now) c.args.ins.now c.args.nl.now c.loop-j.nl c.lower_node.new.nl c.loop-j.j c.loop-j.items.items
          c.keep_item.new.items.items c.in_ok-made.made node.timing
          node.is_at.timing c.in_ok-keep_item.ensures.ok (c.in_ok-made.ensures.grows (st_func_tree c.instance-s.result.now) node.node node.timing node.is_at)
          (subst (λ (z : ℕ). IsItem c.lower_node.new.nl.cells z c.args.at (callees (take c.args.k instances))
          (st_func_tree c.instance-s.result.now) c.args.ins.now
          (get_or (arrivals_in instances c.args.k (st_func_tree c.instance-s.result.now))
          (length (st_func_tree c.instance-s.result.now).ins + c.loop-j.j) 0)
          (length (st_func_tree c.instance-s.result.now).ins + c.loop-j.j) c.in_ok-made.made) c.loop-j.invariant.keeps.rst made) c.loop-j.invariant.lowered;
      marked = λ count h. marks_more (length c.loop-j.nl.cells)
          (length c.lower_node.new.nl.cells) count c.loop-j.j c.loop-j.marks.items c.keep_item.new.marks.items
          (extends_length c.loop-j.nl.cells c.lower_node.new.nl.cells
          (c.in_ok-made.ensures.grows (st_func_tree c.instance-s.result.now) node.node node.timing node.is_at).grows.extends)
          (c.in_ok-keep_item.ensures.marked ∙ ap (λ (m : ℕ). c.loop-j.marks.items ++ m ∷ []) c.len-mark.ensures) (c.loop-j.invariant.marked count h);
      nodes = λ e. marked_more c.args.nl.now c.loop-j.nl c.lower_node.new.nl
          (timings_in instances c.args.k (st_func_tree c.instance-s.result.now)) c.loop-j.j c.loop-j.marks.items c.keep_item.new.marks.items
          node.timing
          node.is_at.timing (c.in_ok-keep_item.ensures.marked ∙ ap (λ (m : ℕ). c.loop-j.marks.items ++ m ∷ []) c.len-mark.ensures)
          (c.in_ok-made.ensures.grows (st_func_tree c.instance-s.result.now) node.node node.timing node.is_at)
          (c.in_ok-made.ensures.spends (st_func_tree c.instance-s.result.now) node.node node.timing node.is_at).muls (c.loop-j.invariant.nodes e);
      sections = λ h.
          let was = c.loop-j.invariant.sections h in
          let more = sections_of (length c.loop-j.nl.cells) (length c.lower_node.new.nl.cells) c.loop-j.sections.items c.lower_node.new.sections.items
          (λ s is. record { node = c.loop-j.j; is = is }) (c.in_ok-made.ensures.sections was.are) in
          sections_trans (length c.args.nl.now.cells) (length c.loop-j.nl.cells)
          (length c.lower_node.new.nl.cells) c.args.sections.now.items c.loop-j.sections.items c.lower_node.new.sections.items
          (extends_length c.args.nl.now.cells c.loop-j.nl.cells c.loop-j.invariant.lowered.grows.grows.extends) was more;
    }
