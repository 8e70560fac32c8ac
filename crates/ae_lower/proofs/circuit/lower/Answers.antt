-- The circuit from its parts.
use Rattle.std.proofs.Common.{◌≡◌, ◌+◌, ◌-◌, ◌++◌, ◌∷◌, [], ℕ, arith, List, Some, slice_get, length, sym, ap, ◌∙◌, subst}
use Rattle.std.proofs.lemmas.List.{length-map}
use Rattle.std.proofs.lemmas.Option.{same_Some, slice_get-map}
use Rattle.std.specs.Option.{option_map}
use Rattle.ae_netlist.specs.declared.cell.NetId.{NetId}
use Rattle.ae_netlist.specs.declared.cell.SizedCell.{SizedCell}
use Rattle.ae_netlist.specs.Circuit.{Circuit}
use Rattle.ae_netlist.specs.Counts.{is_input, number_of}
use Rattle.ae_sttype.specs.declared.st_type.StType.{StType}
use Rattle.ae_sttype.specs.StTree.{st_tree}
use Rattle.ae_rewrite.specs.StProgramTree.{StFuncTree, st_func_tree, st_func_trees, st_trees}
use Rattle.ae_ops.specs.Blocks.{AreBundles}
use Rattle.ae_ports.specs.Ports.{input_cell, input_ports, reset_port, streams_of}
use Rattle.ae_lower.specs.Circuits.{IsCircuitOf, IsCircuitThat, MakesResults, last_of}
use Rattle.ae_clocked.specs.Phases.{Kept}
use Rattle.ae_lower.specs.Growth.{AddsMulsAndMemories, GrowsBy}
use Rattle.ae_lower.specs.Lowering.{instance_costs, timings_in}
use Rattle.ae_lower.specs.Sections.{AreCovered, AreSections, IsSectionWithin}
use Rattle.ae_lower.specs.Stretches.{AreNodeCells, results_load}
use Rattle.ae_lower.specs.PortNets.{bundles_from}
use Rattle.ae_tidy.specs.Places.{AreMarks}
use Rattle.ae_tidy.proofs.Placing.{no_marks}
use Rattle.ae_lower.specs.Ported.{HasBegun}
use Rattle.ae_lower.proofs.Whole.{begun_bundles, chosen_last, circuit_made, has_begun, inputs_begun, instance_at, last_is, light_enough, load_is, reset_belongs}
use Rattle.ae_lower.proofs.Tidied.{tidied_circuit}
use Rattle.ae_lower.proofs.Blocks.{program_circuit}
use Rattle.ae_lower.proofs.Stretches.{begun_inputs, begun_long, tidied_stretches}
use Rattle.ae_lower.proofs.Covering.{covered_copied, sections_empty}
use Rattle.ae_lower.proofs.circuit.lower.Goals as goal

pub add_inputs-requires-clause-room : goal.add_inputs-requires-clause-room
add_inputs-requires-clause-room c =
    let fs = c.args.p.now in
    let f = c.instance-s.result.now in
    let sound = c.count-last.ensures.sound.each (c.count-last.result - 1) (st_func_tree f) (instance_at fs (c.count-last.result - 1) f c.instance-s.ensures) in
    let one : length c.add_input.new.nl.cells ≡ 1 = ap (λ (n : Circuit). length n.cells) c.in_ok-rst.ensures.added ∙
    ap (λ (n : Circuit). length (n.cells ++ input_cell reset_port ∷ [])) c.new-nl.ensures in
    let limit = ap (λ (n : Circuit). n.limit) c.in_ok-rst.ensures.added ∙ ap (λ (n : Circuit). n.limit) c.new-nl.ensures in
    omega (arith, one, limit, sound.few_ins, length-map f.ins.items st_tree, ap length c.deref.ensures.value)

pub lower_instance-requires-clause-room : goal.lower_instance-requires-clause-room
lower_instance-requires-clause-room c =
    let fs = c.args.p.now in
    let f = c.instance-s.result.now in
    let k = c.count-last.result - 1 in
    let here : slice_get (st_func_trees fs) k ≡ Some (st_func_tree f) = instance_at fs k f c.instance-s.ensures in
    let sound = c.count-last.ensures.sound.each k (st_func_tree f) here in
    let load = load_is (st_func_trees fs) c.args.a.now (st_func_tree f) k c.requires.times (last_is fs c.count-last.result c.count-last.ensures.count) here in
    let one : length c.add_input.new.nl.cells ≡ 1 = ap (λ (n : Circuit). length n.cells) c.in_ok-rst.ensures.added ∙
    ap (λ (n : Circuit). length (n.cells ++ input_cell reset_port ∷ [])) c.new-nl.ensures in
    let limit =
    ap (λ (n : Circuit). n.limit) c.in_ok-ins.ensures.cells ∙ ap (λ (n : Circuit). n.limit) c.in_ok-rst.ensures.added ∙
    ap (λ (n : Circuit). n.limit) c.new-nl.ensures in
    omega (
      arith,
      one,
      limit,
      load,
      c.load.ensures.load,
      sound.few_ins,
      length-map f.ins.items st_tree,
      ap length c.deref.ensures.value,
      c.in_ok-ins.ensures.few,
    )

pub add_inputs-requires-clause-in_size : goal.add_inputs-requires-clause-in_size
add_inputs-requires-clause-in_size c k t at =
    let fs = c.args.p.now in
    let f = c.instance-s.result.now in
    let sound = c.count-last.ensures.sound.each (c.count-last.result - 1) (st_func_tree f) (instance_at fs (c.count-last.result - 1) f c.instance-s.ensures) in
    let here : slice_get f.ins.items k ≡ Some t = ap (λ (ts : List StType). slice_get ts k) (sym c.deref.ensures.value) ∙ at in
    (sound.ins k (st_tree t) (slice_get-map st_tree f.ins.items k ∙ ap (option_map st_tree) here)).size

pub lower_instance-requires-clause-belongs : goal.lower_instance-requires-clause-belongs
lower_instance-requires-clause-belongs c =
    let s = st_func_tree c.instance-s.result.now in
    let begun : HasBegun s.ins c.add_inputs.new.nl = has_begun s.ins _ _ _ _ _ c.new-nl.ensures c.in_ok-rst.ensures.added c.in_ok-ins.ensures.cells
    (ap st_trees c.deref.ensures.value) in
    reset_belongs s.ins c.add_inputs.new.nl c.new-clocks.result c.in_ok-rst.rst begun c.new-clocks.ensures
    (ap (λ (n : NetId). n.0) c.in_ok-rst.ensures.net ∙ ap (λ (n : Circuit). length n.cells) c.new-nl.ensures)

pub lower_instance-requires-clause-whole : goal.lower_instance-requires-clause-whole
lower_instance-requires-clause-whole c = record {
  timed = record { sound = c.count-last.ensures.sound; fitted = c.requires.fitted; arrivals = c.requires.times.arrivals };
  slacks = c.requires.slacks;
}

pub lower_instance-requires-clause-light : goal.lower_instance-requires-clause-light
lower_instance-requires-clause-light c =
    let fs = c.args.p.now in
    let f = c.instance-s.result.now in (
      st_func_tree f,
      light_enough (st_func_trees fs) c.args.a.now (st_func_tree f) (c.count-last.result - 1) c.requires.times c.load.ensures.limit
          (last_is fs c.count-last.result c.count-last.ensures.count) (instance_at fs (c.count-last.result - 1) f c.instance-s.ensures),
    )

pub lower_instance-requires-clause-ins : goal.lower_instance-requires-clause-ins
lower_instance-requires-clause-ins c s found =
    let f = c.instance-s.result.now in
    let is : st_func_tree f ≡ s = same_Some _ _ (sym (instance_at c.args.p.now (c.count-last.result - 1) f c.instance-s.ensures) ∙ found) in
    let begun : HasBegun (st_func_tree f).ins c.add_inputs.new.nl = has_begun
    (st_func_tree f).ins _ _ _ _ _ c.new-nl.ensures c.in_ok-rst.ensures.added c.in_ok-ins.ensures.cells (ap st_trees c.deref.ensures.value) in
    let bundles : c.deref-2.result.now ≡ bundles_from 1 (streams_of (st_func_tree f).ins) =
    c.deref-2.ensures.value ∙ begun_bundles (st_func_tree f).ins _ _ _ _ _ c.new-nl.ensures c.in_ok-rst.ensures.added c.in_ok-ins.ensures.bundles
    (ap st_trees c.deref.ensures.value) in
    let there : AreBundles c.add_inputs.new.nl.cells (streams_of (st_func_tree f).ins) c.deref-2.result.now = rw bundles
    (inputs_begun (st_func_tree f).ins c.add_inputs.new.nl begun) in
    subst (λ (u : StFuncTree). AreBundles c.add_inputs.new.nl.cells (streams_of u.ins) c.deref-2.result.now) is there

pub add_results-requires-clause-sound : goal.add_results-requires-clause-sound
add_results-requires-clause-sound c =
    let f = c.instance-s.result.now in
    let last = c.count-last.result - 1 in
    (last, c.count-last.ensures.sound.each last (st_func_tree f) (instance_at c.args.p.now last f c.instance-s.ensures))

pub add_results-requires-clause-long : goal.add_results-requires-clause-long
add_results-requires-clause-long c =
    let f = c.instance-s.result.now in
    let results = c.in_ok-results.ensures.results in
    let chosen = results (st_func_tree f) (instance_at c.args.p.now (c.count-last.result - 1) f c.instance-s.ensures) in
    ap length c.deref-3.ensures.value ∙ chosen.long

pub add_results-requires-clause-nets : goal.add_results-requires-clause-nets
add_results-requires-clause-nets c r i nets at has =
    let f = c.instance-s.result.now in
    let results = c.in_ok-results.ensures.results in
    let chosen = results (st_func_tree f) (instance_at c.args.p.now (c.count-last.result - 1) f c.instance-s.ensures) in
    (chosen.each r i nets at (ap (λ (bs : List (List NetId)). slice_get bs r) (sym c.deref-3.ensures.value) ∙ has)).there

pub returns-clause-circuit : goal.returns-clause-circuit
returns-clause-circuit c s found =
    let fs = c.args.p.now in
    let instances : List StFuncTree = st_func_trees fs in
    let f = c.instance-s.result.now in
    let k = c.count-last.result - 1 in
    let last : k ≡ last_of instances = last_is fs c.count-last.result c.count-last.ensures.count in
    let here : slice_get instances k ≡ Some (st_func_tree f) = instance_at fs k f c.instance-s.ensures in
    let there : slice_get instances (last_of instances) ≡ Some (st_func_tree f) = rw last at here in
    let is : st_func_tree f ≡ s = same_Some _ _ (sym there ∙ found) in
    let begun : HasBegun (st_func_tree f).ins c.add_inputs.new.nl = has_begun
    (st_func_tree f).ins _ _ _ _ _ c.new-nl.ensures c.in_ok-rst.ensures.added c.in_ok-ins.ensures.cells (ap st_trees c.deref.ensures.value) in
    let bundles : c.deref-2.result.now ≡ bundles_from 1 (streams_of (st_func_tree f).ins) =
    c.deref-2.ensures.value ∙ begun_bundles (st_func_tree f).ins _ _ _ _ _ c.new-nl.ensures c.in_ok-rst.ensures.added c.in_ok-ins.ensures.bundles
    (ap st_trees c.deref.ensures.value) in
    let rst : c.new-clocks.result.rst ≡ 0 =
    ap (λ (q : Kept). q.rst) c.new-clocks.ensures ∙ (ap (λ (n : NetId). n.0) c.in_ok-rst.ensures.net ∙ ap (λ (n : Circuit). length n.cells) c.new-nl.ensures) in
    let results = c.in_ok-results.ensures.results in
    let chosen = chosen_last instances (st_func_tree f) _ c.new-clocks.result.rst k _ _ _ _ rst last bundles (sym c.deref-3.ensures.value)
    (results (st_func_tree f) here) in
    let grown = subst (λ m. GrowsBy c.add_inputs.new.nl c.lower_instance.new.nl (instance_costs instances m).load) last c.in_ok-results.ensures.grows in
    let adds = c.in_ok-results.ensures.adds in
    let adds = subst (λ m. AddsMulsAndMemories c.add_inputs.new.nl c.lower_instance.new.nl (instance_costs instances m).muls (instance_costs instances m).mems)
    last
    adds in
    let made =
    circuit_made instances (st_func_tree f) _ _ _ c.deref-3.result.now
    (k, c.count-last.ensures.sound.each k (st_func_tree f) here) there begun grown adds chosen c.in_ok-add_results.ensures c.formed.ensures.cells
    c.formed.ensures.outlets in
    let whole : IsCircuitThat MakesResults instances (st_func_tree f) c.in_ok-tidied.tidied.netlist =
    tidied_circuit instances (st_func_tree f) c.add_results.new.nl c.in_ok-tidied.tidied.netlist
    (k, c.count-last.ensures.sound.each k (st_func_tree f) here) made c.in_ok-tidied.ensures.tidied in
    let meant : IsCircuitOf instances (st_func_tree f) c.in_ok-tidied.tidied.netlist = program_circuit instances
    (st_func_tree f) c.in_ok-tidied.tidied.netlist c.flows_mean.ensures there whole in
    subst (λ (u : StFuncTree). IsCircuitOf instances u c.in_ok-tidied.tidied.netlist) is meant

pub returns-clause-marks : goal.returns-clause-marks
returns-clause-marks c s found =
    let fs = c.args.p.now in
    let f = c.instance-s.result.now in
    let k = c.count-last.result - 1 in
    let last : k ≡ last_of (st_func_trees fs) = last_is fs c.count-last.result c.count-last.ensures.count in
    let here : slice_get (st_func_trees fs) k ≡ Some s = rw last found in
    let none : AreMarks (length c.add_inputs.new.nl.cells) 0 c.new-marks.result.items = rw c.new-marks.ensures.items
    (no_marks (length c.add_inputs.new.nl.cells)) in
    let marks = c.in_ok-results.ensures.marks in
    let all : AreMarks (length c.lower_instance.new.nl.cells) (0 + length s.nodes) c.lower_instance.new.marks.items = marks s 0 here none in
    let same : length c.lower_instance.new.nl.cells ≡ length c.add_results.new.nl.cells = ap (λ (n : Circuit). length n.cells)
    (sym c.in_ok-add_results.ensures.added) in
    let there : AreMarks (length c.add_results.new.nl.cells) (length s.nodes) c.lower_instance.new.marks.items =
    subst (λ (i : ℕ). AreMarks i (length s.nodes) c.lower_instance.new.marks.items) same
    (subst (λ (i : ℕ). AreMarks (length c.lower_instance.new.nl.cells) i c.lower_instance.new.marks.items)
    (let plain : 0 + length s.nodes ≡ length s.nodes = omega arith in plain) all) in
    c.in_ok-tidied.ensures.marks (length s.nodes) there

pub returns-clause-nodes : goal.returns-clause-nodes
returns-clause-nodes c s found =
    let fs = c.args.p.now in
    let f = c.instance-s.result.now in
    let k = c.count-last.result - 1 in
    let last : k ≡ last_of (st_func_trees fs) = last_is fs c.count-last.result c.count-last.ensures.count in
    let here : slice_get (st_func_trees fs) k ≡ Some s = rw last found in
    let none : AreMarks (length c.add_inputs.new.nl.cells) 0 c.new-marks.result.items = rw c.new-marks.ensures.items
    (no_marks (length c.add_inputs.new.nl.cells)) in
    let marks = c.in_ok-results.ensures.marks in
    let all : AreMarks (length c.lower_instance.new.nl.cells) (0 + length s.nodes) c.lower_instance.new.marks.items = marks s 0 here none in
    let same : length c.lower_instance.new.nl.cells ≡ length c.add_results.new.nl.cells = ap (λ (n : Circuit). length n.cells)
    (sym c.in_ok-add_results.ensures.added) in
    let there : AreMarks (length c.add_results.new.nl.cells) (length s.nodes) c.lower_instance.new.marks.items =
    subst (λ (i : ℕ). AreMarks i (length s.nodes) c.lower_instance.new.marks.items) same
    (subst (λ (i : ℕ). AreMarks (length c.lower_instance.new.nl.cells) i c.lower_instance.new.marks.items)
    (let plain : 0 + length s.nodes ≡ length s.nodes = omega arith in plain) all) in
    let instances : List StFuncTree = st_func_trees fs in
    let is : st_func_tree f ≡ s = same_Some _ _ (sym (instance_at fs k f c.instance-s.ensures) ∙ here) in
    let begun : HasBegun (st_func_tree f).ins c.add_inputs.new.nl = has_begun
    (st_func_tree f).ins _ _ _ _ _ c.new-nl.ensures c.in_ok-rst.ensures.added c.in_ok-ins.ensures.cells (ap st_trees c.deref.ensures.value) in
    let begin : length c.add_inputs.new.nl.cells ≡ 1 + length (input_ports (streams_of s.ins)) =
    subst (λ (u : StFuncTree). length c.add_inputs.new.nl.cells ≡ 1 + length (input_ports (streams_of u.ins))) is
    (begun_long (st_func_tree f).ins c.add_inputs.new.nl begun) in
    let kept : c.lower_instance.new.nl.cells ≡ c.add_results.new.nl.cells = ap (λ (n : Circuit). n.cells) (sym c.in_ok-add_results.ensures.added) in
    let front : number_of is_input c.lower_instance.new.nl.cells (length c.add_inputs.new.nl.cells) ≡ length c.add_inputs.new.nl.cells =
    begun_inputs (st_func_tree f).ins c.add_inputs.new.nl c.lower_instance.new.nl begun c.in_ok-results.ensures.grows.grows.extends in
    let nodes = c.in_ok-results.ensures.nodes in
    let made : AreNodeCells instances k s c.lower_instance.new.nl.cells
    (length c.add_inputs.new.nl.cells) c.lower_instance.new.marks.items = nodes s here c.new-marks.ensures.items in
    let raw : AreNodeCells instances k s c.add_results.new.nl.cells (length c.add_inputs.new.nl.cells) c.lower_instance.new.marks.items =
    subst (λ (cells : List SizedCell). AreNodeCells instances k s cells (length c.add_inputs.new.nl.cells) c.lower_instance.new.marks.items) kept made in
    let front_there : number_of is_input c.add_results.new.nl.cells (length c.add_inputs.new.nl.cells) ≡ length c.add_inputs.new.nl.cells =
    subst (λ (cells : List SizedCell). number_of is_input cells (length c.add_inputs.new.nl.cells) ≡ length c.add_inputs.new.nl.cells) kept front in
    let whole : AreNodeCells instances k s c.in_ok-tidied.tidied.netlist.cells (length c.add_inputs.new.nl.cells) c.in_ok-tidied.tidied.marks.items =
    tidied_stretches c.add_results.new.nl c.in_ok-tidied.tidied.netlist (length c.add_inputs.new.nl.cells) (length s.nodes) (timings_in instances k s)
    (results_load instances k s) c.lower_instance.new.marks.items c.in_ok-tidied.tidied.marks.items
    c.in_ok-tidied.ensures.tidied there (c.in_ok-tidied.ensures.moved (length s.nodes) there) front_there raw in
    subst (λ (i : ℕ). AreNodeCells instances i s c.in_ok-tidied.tidied.netlist.cells
    (1 + length (input_ports (streams_of s.ins))) c.in_ok-tidied.tidied.marks.items) last
    (subst (λ (b : ℕ). AreNodeCells instances k s c.in_ok-tidied.tidied.netlist.cells b c.in_ok-tidied.tidied.marks.items) begin whole)

pub copied_sections-requires-clause-few : goal.copied_sections-requires-clause-few
copied_sections-requires-clause-few c =
    let limit =
    ap (λ (n : Circuit). n.limit) c.in_ok-add_results.ensures.added ∙ c.in_ok-results.ensures.grows.grows.limit ∙
    ap (λ (n : Circuit). n.limit) c.in_ok-ins.ensures.cells ∙ ap (λ (n : Circuit). n.limit) c.in_ok-rst.ensures.added ∙
    ap (λ (n : Circuit). n.limit) c.new-nl.ensures in
    omega (
      arith,
      ap length c.deref-4.ensures.value,
      c.in_ok-tidied.ensures.made.long,
      c.in_ok-tidied.ensures.tidied.small,
      c.formed.ensures.limit,
      c.load.ensures.load,
      c.load.ensures.limit,
      limit,
    )

pub copied_sections-requires-clause-rising : goal.copied_sections-requires-clause-rising
copied_sections-requires-clause-rising c = rw c.deref-4.ensures.value c.in_ok-tidied.ensures.made.rising

pub copied_sections-requires-clause-sections : goal.copied_sections-requires-clause-sections
copied_sections-requires-clause-sections c =
    let sections = c.in_ok-results.ensures.sections in
    let have = sections (rw c.new-sections.ensures.items (sections_empty (length c.add_inputs.new.nl.cells))) in
    (length c.lower_instance.new.nl.cells, rw c.deref-5.ensures.value have.are)

pub returns-clause-sections : goal.returns-clause-sections
returns-clause-sections c =
    let long : length c.deref-4.result.now ≡ length c.in_ok-tidied.tidied.netlist.cells = ap length c.deref-4.ensures.value ∙
    c.in_ok-tidied.ensures.made.long in
    subst (λ (n : ℕ). AreSections n c.in_ok-sections.sections.items) long c.in_ok-sections.ensures.are

pub returns-clause-covered : goal.returns-clause-covered
returns-clause-covered c s found =
    let fs = c.args.p.now in
    let instances : List StFuncTree = st_func_trees fs in
    let f = c.instance-s.result.now in
    let k = c.count-last.result - 1 in
    let last : k ≡ last_of instances = last_is fs c.count-last.result c.count-last.ensures.count in
    let here : slice_get instances k ≡ Some s = rw last found in
    let is : st_func_tree f ≡ s = same_Some _ _ (sym (instance_at fs k f c.instance-s.ensures) ∙ here) in
    let begun : HasBegun (st_func_tree f).ins c.add_inputs.new.nl = has_begun
    (st_func_tree f).ins _ _ _ _ _ c.new-nl.ensures c.in_ok-rst.ensures.added c.in_ok-ins.ensures.cells (ap st_trees c.deref.ensures.value) in
    let begin : length c.add_inputs.new.nl.cells ≡ 1 + length (input_ports (streams_of s.ins)) =
    subst (λ (u : StFuncTree). length c.add_inputs.new.nl.cells ≡ 1 + length (input_ports (streams_of u.ins))) is
    (begun_long (st_func_tree f).ins c.add_inputs.new.nl begun) in
    let sections = c.in_ok-results.ensures.sections in
    let have = sections (rw c.new-sections.ensures.items (sections_empty (length c.add_inputs.new.nl.cells))) in
    let same : length c.lower_instance.new.nl.cells ≡ length c.add_results.new.nl.cells = ap (λ (n : Circuit). length n.cells)
    (sym c.in_ok-add_results.ensures.added) in
    let all : AreCovered (IsSectionWithin instances k) (length c.add_inputs.new.nl.cells)
    (length c.add_results.new.nl.cells) c.lower_instance.new.sections.items =
    subst (λ (n : ℕ). AreCovered (IsSectionWithin instances k) (length c.add_inputs.new.nl.cells) n c.lower_instance.new.sections.items) same have.own in
    let whole : AreCovered (IsSectionWithin instances k) (length c.add_inputs.new.nl.cells)
    (length c.in_ok-tidied.tidied.netlist.cells) c.in_ok-sections.sections.items =
    covered_copied instances k (length c.add_inputs.new.nl.cells) c.add_results.new.nl.cells c.in_ok-tidied.tidied.netlist.cells
    c.in_ok-tidied.tidied.made.items c.lower_instance.new.sections.items c.in_ok-sections.sections.items
    c.in_ok-tidied.ensures.made all (rw (c.deref-4.ensures.value, c.deref-5.ensures.value) at c.in_ok-sections.ensures.copied) in
    subst (λ (i : ℕ). AreCovered (IsSectionWithin instances i) (1 + length (input_ports (streams_of s.ins)))
    (length c.in_ok-tidied.tidied.netlist.cells) c.in_ok-sections.sections.items) last
    (subst (λ (b : ℕ). AreCovered (IsSectionWithin instances k) b (length c.in_ok-tidied.tidied.netlist.cells) c.in_ok-sections.sections.items) begin whole)

pub returns-clause-lean : goal.returns-clause-lean
returns-clause-lean c = c.in_ok-tidied.ensures.tidied.lean
