-- One result more.
use Rattle.std.proofs.Common.{◌≤◌, List, length, map, take, arith, refl, sym, subst}
use Rattle.std.proofs.lemmas.List.{take_all}
use Rattle.std.proofs.lemmas.Option.{slice_get_read}
use Rattle.ae_netlist.specs.declared.cell.NetId.{NetId}
use Rattle.ae_netlist.specs.declared.cell.SizedCell.{SizedCell}
use Rattle.ae_sttype.specs.StTree.{st_tree}
use Rattle.ae_ops.specs.Waves.{AreNets}
use Rattle.ae_ops.specs.Blocks.{stream_widths}
use Rattle.ae_ports.specs.Ports.{output_ports}
use Rattle.ae_lower.specs.PortNets.{AddsOutputs}
use Rattle.ae_lower.proofs.Outputs.{all_nets, outputs_cells, outputs_count, result_few, results_more}
use Rattle.ae_results.specs.declared.result.FusedResult.{FusedResult}
use Rattle.ae_fuse.specs.Lowered.{result_stream}
use Rattle.ae_fuse.proofs.lowering.show_results.Goals as goal

pub add_outputs-requires-clause-nets : goal.add_outputs-requires-clause-nets
add_outputs-requires-clause-nets c =
    let k = c.loop-k.k in
    let rs = c.args.results.now in
    let bs = c.args.bundles.now in
    let found = slice_get_read rs (length rs) k c.index-results-k.result refl (omega arith) c.index-results-k.is in
    let has = slice_get_read bs (length bs) k c.index-bundles-k.result refl (omega (arith, c.requires.long)) c.index-bundles-k.is in
    subst (λ (cells : List SizedCell). AreNets cells (stream_widths (result_stream c.index-results-k.result)) c.index-bundles-k.result)
    (sym (outputs_cells c.loop-k.invariant.outputs)) (c.requires.nets k c.index-results-k.result c.index-bundles-k.result found has)

pub add_outputs-requires-clause-room : goal.add_outputs-requires-clause-room
add_outputs-requires-clause-room c =
    let k = c.loop-k.k in
    let rs = c.args.results.now in
    let found = slice_get_read rs (length rs) k c.index-results-k.result refl (omega arith) c.index-results-k.is in
    let few = result_few _ (st_tree c.index-results-k.result.out) c.index-bundles-k.result (c.requires.sizes k c.index-results-k.result found)
    (add_outputs-requires-clause-nets c) in
    omega (arith, few, c.loop-k.invariant.few, c.requires.few, c.loop-k-test.true)

pub loop-k-preserved : goal.loop-k-preserved
loop-k-preserved c =
    let k = c.loop-k.k in
    let rs = c.args.results.now in
    let bs = c.args.bundles.now in
    let found = slice_get_read rs (length rs) k c.index-results-k.result refl (omega arith) c.index-results-k.is in
    let has = slice_get_read bs (length bs) k c.index-bundles-k.result refl (omega (arith, c.requires.long)) c.index-bundles-k.is in
    let nets : AreNets c.loop-k.nl.cells (stream_widths (result_stream c.index-results-k.result)) c.index-bundles-k.result =
    subst (λ (cells : List SizedCell). AreNets cells (stream_widths (result_stream c.index-results-k.result)) c.index-bundles-k.result)
    (sym (outputs_cells c.loop-k.invariant.outputs)) (c.requires.nets k c.index-results-k.result c.index-bundles-k.result found has) in
    let few = result_few _ (st_tree c.index-results-k.result.out) c.index-bundles-k.result (c.requires.sizes k c.index-results-k.result found) nets in
    let one = c.in_ok-add_outputs.ensures in
    record {
      within = omega arith;
      outputs = results_more _ _ _ result_stream rs bs k c.index-results-k.result c.index-bundles-k.result found has c.loop-k.invariant.outputs one;
      few = omega (arith, outputs_count one, few, c.loop-k.invariant.few);
    }

pub returns : goal.returns
returns c =
    let rs = c.args.results.now in
    let bs = c.args.bundles.now in
    let long : length rs ≤ c.loop-k.k = omega (arith, c.loop-k-test.false) in
    let P : List FusedResult → List (List NetId) → Type 0 = λ xs ys. AddsOutputs c.args.nl.now c.loop-k.nl (output_ports (map result_stream xs))
    (all_nets ys) in
    let outputs : P (take c.loop-k.k rs) (take c.loop-k.k bs) = c.loop-k.invariant.outputs in
    subst (λ ys. P rs ys) (take_all c.loop-k.k bs (omega (arith, c.requires.long, long)))
    (subst (λ xs. P xs (take c.loop-k.k bs)) (take_all c.loop-k.k rs long) outputs)
