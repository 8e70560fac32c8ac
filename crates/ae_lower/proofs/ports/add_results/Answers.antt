-- One result more, until there are no more.
use Rattle.std.proofs.Common.{◌≡◌, ◌<◌, ◌≤◌, ℕ, List, Some, arith, refl, sym, ap, ◌∙◌, subst, get_or, length, map, slice_get, take}
use Rattle.std.proofs.lemmas.List.{take_all}
use Rattle.std.proofs.lemmas.Option.{slice_get-get_or, slice_get_read}
use Rattle.ae_netlist.specs.declared.cell.NetId.{NetId}
use Rattle.ae_netlist.specs.declared.cell.Port.TheVariants.{Out}
use Rattle.ae_sttype.specs.StTree.{StTree, st_tree}
use Rattle.ae_rewrite.specs.StProgramTree.{st_func_tree}
use Rattle.ae_ops.specs.Blocks.{stream_of}
use Rattle.ae_lower.specs.Circuits.{item_stream}
use Rattle.ae_ports.specs.Ports.{output_ports, stream_ports}
use Rattle.ae_lower.specs.PortNets.{AddsOutputs}
use Rattle.ae_lower.proofs.Outputs.{all_nets, result_few, result_grows, result_nets, result_sized, results_few, results_more}
use Rattle.ae_lower.proofs.ports.add_results.Goals as goal

pub add_outputs-requires-clause-in_size : goal.add_outputs-requires-clause-in_size
add_outputs-requires-clause-in_size c =
    let r = c.loop-number.number in
    let items = c.deref-item-items.result.now in
    let found : slice_get c.args.s.now.results.items r ≡ Some (get_or items r 0) =
    ap (λ xs. slice_get xs r) (sym c.deref-item-items.ensures.value) ∙ slice_get-get_or items r 0 c.loop-number-test.true in
    result_sized (st_func_tree c.args.s.now) (st_tree c.layout-layout.result.now) r (get_or items r 0) c.requires.sound found c.layout-layout.ensures

pub add_outputs-requires-clause-nets : goal.add_outputs-requires-clause-nets
add_outputs-requires-clause-nets c =
    let r = c.loop-number.number in
    let items = c.deref-item-items.result.now in
    let found : slice_get c.args.s.now.results.items r ≡ Some (get_or items r 0) =
    ap (λ xs. slice_get xs r) (sym c.deref-item-items.ensures.value) ∙ slice_get-get_or items r 0 c.loop-number-test.true in
    let below : r < length c.args.bundles.now = omega (arith, c.requires.long, ap length c.deref-item-items.ensures.value, c.loop-number-test.true) in
    let has : slice_get c.args.bundles.now r ≡ Some c.index-bundles-number.result = slice_get_read c.args.bundles.now
    (length c.args.bundles.now) r c.index-bundles-number.result refl below c.index-bundles-number.is in
    result_nets c.args.nl.now c.loop-number.nl (st_func_tree c.args.s.now) (st_tree c.layout-layout.result.now) _ _
    (get_or items r 0) c.index-bundles-number.result c.loop-number.invariant.outputs c.layout-layout.ensures
    (c.requires.nets r (get_or items r 0) c.index-bundles-number.result found has)

pub add_outputs-requires-clause-room : goal.add_outputs-requires-clause-room
add_outputs-requires-clause-room c =
    let r = c.loop-number.number in
    let items = c.deref-item-items.result.now in
    let found : slice_get c.args.s.now.results.items r ≡ Some (get_or items r 0) =
    ap (λ xs. slice_get xs r) (sym c.deref-item-items.ensures.value) ∙ slice_get-get_or items r 0 c.loop-number-test.true in
    let size = add_outputs-requires-clause-in_size c in
    let nets = add_outputs-requires-clause-nets c in
    omega (
      arith,
      results_few (st_func_tree c.args.s.now) r (get_or items r 0) c.requires.sound found,
      result_few _ (st_tree c.layout-layout.result.now) c.index-bundles-number.result size nets,
      c.loop-number.invariant.few,
    )

pub loop-number-preserved : goal.loop-number-preserved
loop-number-preserved c =
    let r = c.loop-number.number in
    let items = c.deref-item-items.result.now in
    let found : slice_get c.args.s.now.results.items r ≡ Some (get_or items r 0) =
    ap (λ xs. slice_get xs r) (sym c.deref-item-items.ensures.value) ∙ slice_get-get_or items r 0 c.loop-number-test.true in
    let below : r < length c.args.bundles.now = omega (arith, c.requires.long, ap length c.deref-item-items.ensures.value, c.loop-number-test.true) in
    let has : slice_get c.args.bundles.now r ≡ Some c.index-bundles-number.result = slice_get_read c.args.bundles.now
    (length c.args.bundles.now) r c.index-bundles-number.result refl below c.index-bundles-number.is in
    let nets = c.requires.nets r (get_or items r 0) c.index-bundles-number.result found has in
    let one : AddsOutputs c.loop-number.nl c.add_outputs.new.nl
    (stream_ports (Out r) (item_stream (st_func_tree c.args.s.now) (get_or items r 0))) c.index-bundles-number.result =
    subst (λ (t : StTree). AddsOutputs c.loop-number.nl c.add_outputs.new.nl (stream_ports (Out r) (stream_of t)) c.index-bundles-number.result)
    c.layout-layout.ensures c.in_ok-add_outputs.ensures in
    record {
      outputs = results_more _ _ _ (item_stream (st_func_tree c.args.s.now)) c.args.s.now.results.items c.args.bundles.now r
          (get_or items r 0) c.index-bundles-number.result found has c.loop-number.invariant.outputs one;
      few = result_grows _ _ _ (st_func_tree c.args.s.now) (st_tree c.layout-layout.result.now) _ _ _ r
          (get_or items r 0) c.index-bundles-number.result c.requires.sound found c.layout-layout.ensures nets c.loop-number.invariant.outputs one
          c.loop-number.invariant.few;
    }

pub returns : goal.returns
returns c =
    let long : length c.args.s.now.results.items ≤ c.loop-number.number = omega (arith, ap length c.deref-item-items.ensures.value, c.loop-number-test.false) in
    let P : List ℕ → List (List NetId) → Type 0 = λ chosen bundles. AddsOutputs c.args.nl.now c.loop-number.nl
    (output_ports (map (item_stream (st_func_tree c.args.s.now)) chosen)) (all_nets bundles) in
    let outputs : P (take c.loop-number.number c.args.s.now.results.items) (take c.loop-number.number c.args.bundles.now) = c.loop-number.invariant.outputs in
    subst (λ (bs : List (List NetId)). P c.args.s.now.results.items bs)
    (take_all c.loop-number.number c.args.bundles.now (omega (arith, c.requires.long, long)))
    (subst (λ (xs : List ℕ). P xs (take c.loop-number.number c.args.bundles.now)) (take_all c.loop-number.number c.args.s.now.results.items long) outputs)
