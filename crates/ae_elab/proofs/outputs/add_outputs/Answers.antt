use Rattle.std.proofs.Common.{ℕ, [], ◌∷◌, ◌++◌, map, min, take, Some, None, sym, ap, ◌∙◌, arith}
use Rattle.std.proofs.lemmas.List.{length-map, length-take, take_more}
use Rattle.ae_vmodule.specs.View.{module_tree, net_tree}
use Rattle.ae_netlist.specs.declared.cell.Outlet.{Outlet}
use Rattle.ae_netlist.specs.Circuit.{Circuit}
use Rattle.ae_order.proofs.Turns.{at_turn, take_turn}
use Rattle.ae_judge.specs.Names.{is_output_kind}
use Rattle.ae_elab.proofs.Showing.{got_or, output_net, read_there, shown_few, shown_more, shown_plain}
use Rattle.ae_elab.proofs.outputs.add_outputs.Goals as goal

pub show-requires-clause-net : goal.show-requires-clause-net
show-requires-clause-net c = λ y t h.
    let m = module_tree c.args.m.now in
    let items = c.args.m.now.nets.items in
    let all = c.args.m.now.nets.ok.0 in
    let trees = length-map items (net_tree c.args.m.now.words) in
    let long = c.requires.nets.long in
    let len = c.len-place-end.ensures in
    let found = at_turn (net_tree c.args.m.now.words) items c.loop-place.place c.index.result.now (omega arith) c.index.ensures in
    let net = read_there c.args.nets.now c.loop-place.place c.index-nets-place.result c.net.result (omega arith) c.index-nets-place.is c.net.ensures
    ∙ ap Some h in
    rw c.loop-place.invariant.cells (output_net c.index.result.now.kind c.args.nl.now.cells y.0 c.index.result.now.width
    (ap is_output_kind (sym c.kind.ensures) ∙ t) (c.requires.nets.each c.loop-place.place (net_tree c.args.m.now.words c.index.result.now) y found net))

pub loop-place-preserved : goal.loop-place-preserved
loop-place-preserved c =
    let m = module_tree c.args.m.now in
    let items = c.args.m.now.nets.items in
    let all = c.args.m.now.nets.ok.0 in
    let trees = length-map items (net_tree c.args.m.now.words) in
    let long = c.requires.nets.long in
    let len = c.len-place-end.ensures in
    let x = net_tree c.args.m.now.words c.index.result.now in
    let k = c.loop-place.place in
    let found = at_turn (net_tree c.args.m.now.words) items k c.index.result.now (omega arith) c.index.ensures in
    let is = rw c.kind.ensures at c.in_ok-show.ensures in
    let some = length-take k m.nets in
    let net = got_or c.args.nets.now k None c.net.result
    (read_there c.args.nets.now k c.index-nets-place.result c.net.result (omega arith) c.index-nets-place.is c.net.ensures) in
    let most = length-take k c.args.nets.now in
    record {
      cells = ap (λ (u : Circuit). u.cells) is ∙ c.loop-place.invariant.cells;
      outlets =
          ap (λ (u : Circuit). map (λ (o : Outlet). o.net.0) u.outlets) is
          ∙ shown_more (take k m.nets) _ (take k c.args.nets.now) _ x _ c.loop-place.nl.outlets (most ∙ ap (λ (n : ℕ). min k n) long ∙ sym some)
          (take_turn (net_tree c.args.m.now.words) items k c.index.result.now (omega arith) c.index.ensures)
          (take_more c.args.nets.now k None (omega arith) ∙ ap (λ u. take k c.args.nets.now ++ u ∷ []) net)
          (λ t. let y = c.requires.each k x found t in (y.0, sym net ∙ got_or c.args.nets.now k None (Some y.0) y.1)) c.loop-place.invariant.outlets;
      plain = rw is (shown_plain _ _ c.loop-place.nl.outlets c.loop-place.invariant.plain);
      few = rw is (shown_few _ _ c.loop-place.nl.outlets k c.loop-place.invariant.few);
    }
