-- The circuit from its parts.
use Rattle.std.proofs.Common.{◌≡◌, ◌≤◌, ◌++◌, ◌∷◌, [], ◌∙◌, List, slice_get, length, map, sum_by, ap, arith, refl, sym, subst}
use Rattle.ae_netlist.specs.declared.cell.NetId.{NetId}
use Rattle.ae_netlist.specs.declared.cell.SizedCell.{SizedCell}
use Rattle.ae_netlist.specs.Circuit.{Circuit}
use Rattle.ae_sttype.specs.declared.st_type.StType.{StType}
use Rattle.ae_sttype.specs.StTree.{StTree}
use Rattle.ae_clocked.specs.Phases.{Kept}
use Rattle.ae_moves.specs.Origins.{move_latency}
use Rattle.ae_moves.proofs.Lists.{get_mapped}
use Rattle.ae_ports.specs.Ports.{input_cell, output_ports, reset_port, streams_of}
use Rattle.ae_rewrite.specs.StProgramTree.{st_trees}
use Rattle.ae_tidy.specs.Places.{AreMarks}
use Rattle.ae_lower.specs.Growth.{AddsMulsAndMemories, GrowsBy}
use Rattle.ae_lower.specs.PortNets.{AddsOutputs, bundles_from}
use Rattle.ae_lower.specs.Ported.{HasBegun}
use Rattle.ae_lower.proofs.Outputs.{all_nets, outputs_cells}
use Rattle.ae_lower.proofs.Whole.{begun_bundles, has_begun, inputs_begun, reset_belongs}
use Rattle.ae_results.specs.declared.result.FusedResult.{FusedResult}
use Rattle.ae_fuse.specs.Costing.{result_load, result_mems}
use Rattle.ae_results.specs.Results.{result_move}
use Rattle.ae_fuse.specs.Fused.{FusedView, moves_in}
use Rattle.ae_fuse.specs.Lowered.{AreLateResults, IsWhole, result_stream}
use Rattle.ae_fuse.proofs.Circuits.{ShowsMoves, at-most-latest, fused-circuit, late-same, shows-raw, shows-tidied, type-sized, whole-load}
use Rattle.ae_fuse.proofs.whole.Fused.lower.Goals as goal

pub add_inputs-requires-clause-room : goal.add_inputs-requires-clause-room
add_inputs-requires-clause-room c =
    let f = c.args.self.now in
    let whole : IsWhole f = subst IsWhole c.self.view_is c.self.invariant in
    let ins : c.as_slice-ins.result.now ≡ f.ins = c.as_slice-ins.ensures.value ∙ ap (λ (v : FusedView). v.ins) c.self.view_is in
    let one : length c.add_input.new.nl.cells ≡ 1 = ap (λ (n : Circuit). length n.cells) c.in_ok-rst.ensures.added ∙
    ap (λ (n : Circuit). length (n.cells ++ input_cell reset_port ∷ [])) c.new-nl.ensures in
    let limit = ap (λ (n : Circuit). n.limit) c.in_ok-rst.ensures.added ∙ ap (λ (n : Circuit). n.limit) c.new-nl.ensures in
    omega (arith, one, limit, whole.few_ins, ap length ins)

pub all_nets-requires-clause-few : goal.all_nets-requires-clause-few
all_nets-requires-clause-few c =
    let f = c.args.self.now in
    let whole : IsWhole f = subst IsWhole c.self.view_is c.self.invariant in
    let ins : c.as_slice-ins.result.now ≡ f.ins = c.as_slice-ins.ensures.value ∙ ap (λ (v : FusedView). v.ins) c.self.view_is in
    omega (arith, whole.few_ins, ap length ins)

pub all_nets-requires-clause-room : goal.all_nets-requires-clause-room
all_nets-requires-clause-room c =
    let f = c.args.self.now in
    let whole : IsWhole f = subst IsWhole c.self.view_is c.self.invariant in
    let ins : c.as_slice-ins.result.now ≡ f.ins = c.as_slice-ins.ensures.value ∙ ap (λ (v : FusedView). v.ins) c.self.view_is in
    let results : c.as_slice-results.result.now ≡ f.results = c.as_slice-results.ensures.value ∙ ap (λ (v : FusedView). v.results) c.self.view_is in
    let latency : c.self.inside.latency ≡ f.latency = ap (λ (v : FusedView). v.latency) c.self.view_is in
    let moves : map (result_move (st_trees c.as_slice-ins.result.now)) c.as_slice-results.result.now ≡ moves_in f = λ i. map (result_move (st_trees (ins i)))
    (results i) in
    let load : sum_by (result_load c.self.inside.latency)
    (map (result_move (st_trees c.as_slice-ins.result.now)) c.as_slice-results.result.now) ≡ f.load = (λ i. sum_by (result_load (latency i)) (moves i)) ∙
    whole-load f whole in
    let one : length c.add_input.new.nl.cells ≡ 1 = ap (λ (n : Circuit). length n.cells) c.in_ok-rst.ensures.added ∙
    ap (λ (n : Circuit). length (n.cells ++ input_cell reset_port ∷ [])) c.new-nl.ensures in
    let limit =
    ap (λ (n : Circuit). n.limit) c.in_ok-args.ensures.cells ∙ ap (λ (n : Circuit). n.limit) c.in_ok-rst.ensures.added ∙
    ap (λ (n : Circuit). n.limit) c.new-nl.ensures in
    omega (arith, one, limit, load, c.requires.light, whole.few_ins, ap length ins, c.in_ok-args.ensures.few)

pub add_inputs-requires-clause-in_size : goal.add_inputs-requires-clause-in_size
add_inputs-requires-clause-in_size c k t found =
    let f = c.args.self.now in
    let whole : IsWhole f = subst IsWhole c.self.view_is c.self.invariant in
    let ins : c.as_slice-ins.result.now ≡ f.ins = c.as_slice-ins.ensures.value ∙ ap (λ (v : FusedView). v.ins) c.self.view_is in
    type-sized f whole k t (ap (λ (ts : List StType). slice_get ts k) (sym ins) ∙ found)

pub all_nets-requires-clause-latest : goal.all_nets-requires-clause-latest
all_nets-requires-clause-latest c k r found =
    let f = c.args.self.now in
    let whole : IsWhole f = subst IsWhole c.self.view_is c.self.invariant in
    let ins : st_trees c.as_slice-ins.result.now ≡ st_trees f.ins = ap st_trees (c.as_slice-ins.ensures.value ∙ ap (λ (v : FusedView). v.ins) c.self.view_is) in
    let results : c.as_slice-results.result.now ≡ f.results = c.as_slice-results.ensures.value ∙ ap (λ (v : FusedView). v.results) c.self.view_is in
    let latency : c.self.inside.latency ≡ f.latency = ap (λ (v : FusedView). v.latency) c.self.view_is in
    let most = at-most-latest f whole k r (ap (λ (rs : List FusedResult). slice_get rs k) (sym results) ∙ found) in
    subst (λ n. move_latency (result_move (st_trees c.as_slice-ins.result.now) r) ≤ n) (sym latency)
    (subst (λ (ts : List StTree). move_latency (result_move ts r) ≤ f.latency) (sym ins) most)

pub all_nets-requires-clause-belongs : goal.all_nets-requires-clause-belongs
all_nets-requires-clause-belongs c =
    let ins = st_trees c.as_slice-ins.result.now in
    let begun : HasBegun ins c.add_inputs.new.nl = has_begun ins _ _ _ _ ins c.new-nl.ensures c.in_ok-rst.ensures.added c.in_ok-args.ensures.cells refl in
    reset_belongs ins c.add_inputs.new.nl c.new-clocks.result c.in_ok-rst.rst begun c.new-clocks.ensures
    (ap (λ (n : NetId). n.0) c.in_ok-rst.ensures.net ∙ ap (λ (n : Circuit). length n.cells) c.new-nl.ensures)

pub all_nets-requires-clause-args : goal.all_nets-requires-clause-args
all_nets-requires-clause-args c =
    let ins = st_trees c.as_slice-ins.result.now in
    let begun : HasBegun ins c.add_inputs.new.nl = has_begun ins _ _ _ _ ins c.new-nl.ensures c.in_ok-rst.ensures.added c.in_ok-args.ensures.cells refl in
    let bundles : c.deref.result.now ≡ bundles_from 1 (streams_of ins) = c.deref.ensures.value ∙
    begun_bundles ins _ _ _ ins _ c.new-nl.ensures c.in_ok-rst.ensures.added c.in_ok-args.ensures.bundles refl in
    rw bundles (inputs_begun ins c.add_inputs.new.nl begun)

pub show_results-requires-clause-nets : goal.show_results-requires-clause-nets
show_results-requires-clause-nets c k r nets found has =
    let ins = st_trees c.as_slice-ins.result.now in
    (c.in_ok-built.ensures.moved.each k (result_move ins r) nets (get_mapped (result_move ins) c.as_slice-results.result.now k r found)
    (ap (λ (bs : List (List NetId)). slice_get bs k) (sym c.deref-2.ensures.value) ∙ has)).there

pub returns-clause-circuit : goal.returns-clause-circuit
returns-clause-circuit c =
    let f = c.args.self.now in
    let whole : IsWhole f = subst IsWhole c.self.view_is c.self.invariant in
    let same : st_trees c.as_slice-ins.result.now ≡ st_trees f.ins = ap st_trees
    (c.as_slice-ins.ensures.value ∙ ap (λ (v : FusedView). v.ins) c.self.view_is) in
    let results : c.as_slice-results.result.now ≡ f.results = c.as_slice-results.ensures.value ∙ ap (λ (v : FusedView). v.results) c.self.view_is in
    let latency : c.self.inside.latency ≡ f.latency = ap (λ (v : FusedView). v.latency) c.self.view_is in
    let moves : map (result_move (st_trees c.as_slice-ins.result.now)) c.as_slice-results.result.now ≡ moves_in f = λ i. map (result_move (same i))
    (results i) in
    let ins = st_trees f.ins in
    let a = c.add_inputs.new.nl in
    let b = c.all_nets.new.nl in
    let d = c.show_results.new.nl in
    let bundles = c.deref-2.result.now in
    let begun : HasBegun ins a = has_begun ins _ _ _ _ _ c.new-nl.ensures c.in_ok-rst.ensures.added c.in_ok-args.ensures.cells same in
    let args : c.deref.result.now ≡ bundles_from 1 (streams_of ins) = c.deref.ensures.value ∙
    begun_bundles ins _ _ _ _ _ c.new-nl.ensures c.in_ok-rst.ensures.added c.in_ok-args.ensures.bundles same in
    let rst : c.new-clocks.result.rst ≡ 0 = ap (λ (q : Kept). q.rst) c.new-clocks.ensures ∙
    (ap (λ (n : NetId). n.0) c.in_ok-rst.ensures.net ∙ ap (λ (n : Circuit). length n.cells) c.new-nl.ensures) in
    let grown : GrowsBy a b (sum_by (result_load f.latency) (moves_in f)) = subst (GrowsBy a b)
    (λ i. sum_by (result_load (latency i)) (moves i)) c.in_ok-built.ensures.grows in
    let added : AddsMulsAndMemories a b 0 (sum_by (result_mems f.latency) (moves_in f)) = subst (AddsMulsAndMemories a b 0)
    (λ i. sum_by (result_mems (latency i)) (moves i)) c.in_ok-built.ensures.adds in
    let moved : AreLateResults b.cells 0 f.latency (moves_in f) (length f.results) (bundles_from 1 (streams_of ins)) bundles =
    subst (AreLateResults b.cells 0 f.latency (moves_in f) (length f.results) (bundles_from 1 (streams_of ins))) (sym c.deref-2.ensures.value)
    (late-same rst latency moves (ap length results) args c.in_ok-built.ensures.moved) in
    let shown : AddsOutputs b d (output_ports (map result_stream f.results)) (all_nets bundles) =
    subst (λ (rs : List FusedResult). AddsOutputs b d (output_ports (map result_stream rs)) (all_nets bundles)) results c.in_ok-show_results.ensures in
    let raw : ShowsMoves f d = shows-raw f whole a b d bundles begun grown added moved shown c.formed.ensures.cells c.formed.ensures.outlets in
    let done : ShowsMoves f c.in_ok-tidied.tidied.netlist = shows-tidied f whole d c.in_ok-tidied.tidied.netlist raw c.in_ok-tidied.ensures.tidied in
    fused-circuit f c.in_ok-tidied.tidied.netlist done c.in_ok-tidied.ensures.tidied.lean

pub returns-clause-marks : goal.returns-clause-marks
returns-clause-marks c =
    let f = c.args.self.now in
    let results : c.as_slice-results.result.now ≡ f.results = c.as_slice-results.ensures.value ∙ ap (λ (v : FusedView). v.results) c.self.view_is in
    let cells : length c.all_nets.new.nl.cells ≡ length c.show_results.new.nl.cells = ap (λ (xs : List SizedCell). length xs)
    (sym (outputs_cells c.in_ok-show_results.ensures)) in
    let made : AreMarks (length c.show_results.new.nl.cells) (length f.results) c.in_ok-built.built.marks.items =
    subst (λ n. AreMarks n (length f.results) c.in_ok-built.built.marks.items) cells
    (subst (λ n. AreMarks (length c.all_nets.new.nl.cells) n c.in_ok-built.built.marks.items) (ap length results) c.in_ok-built.ensures.marks) in
    c.in_ok-tidied.ensures.marks (length f.results) made
