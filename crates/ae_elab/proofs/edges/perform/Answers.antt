use Rattle.std.proofs.Common.{◌≡◌, length, map, replicate, arith, sym, ap, ◌∙◌}
use Rattle.std.proofs.lemmas.List.{length-map}
use Rattle.ae_netlist.proofs.Carried.{carries_extends, carries_trans}
use Rattle.ae_netlist.proofs.Growing.{keeps_extends}
use Rattle.ae_vmodule.specs.View.{item_tree, module_tree, net_tree}
use Rattle.ae_assign.specs.Edges.{ActsItems}
use Rattle.ae_assign.specs.declared.statements.Next.TheVariants.{Keep}
use Rattle.ae_elab.proofs.EdgeSteps.{edge_steps}
use Rattle.ae_elab.proofs.EdgeSound.{items_active}
use Rattle.ae_elab.proofs.EdgeFresh.{first_fit, first_fresh, first_nexts, items_next, unconnected_grows}
use Rattle.ae_elab.proofs.Tables.{table_nets}
use Rattle.ae_elab.proofs.Unchanged.{inputs_kept, states_kept}
use Rattle.ae_elab.proofs.edges.perform.Goals as goal

pub act_items-requires : goal.act_items-requires
act_items-requires c =
    let m = module_tree c.args.m.now in
    let items : map (item_tree c.args.m.now.words) c.deref.result.now ≡ (module_tree c.args.m.now).items = ap
    (map (item_tree c.args.m.now.words)) c.deref.ensures.value in
    let nexts : c.none-nexts.result ≡ first_nexts (module_tree c.args.m.now).nets =
    (let all = length-map c.args.m.now.nets.items (net_tree c.args.m.now.words) in
    let count = c.len.ensures in
    let e : c.len.result ≡ length (module_tree c.args.m.now).nets = omega arith in
    c.none-nexts.ensures ∙ ap (λ n. replicate n Keep) e) in
    rw (c.requires.names, items, nexts) (record {
      from = c.requires.from;
      nets = c.requires.nets;
      active = items_active m c.requires.regular c.requires.shape c.args.nets.now c.requires.each;
      nexts = first_fit (module_tree c.args.m.now).nets c.args.nl.now.cells;
      fresh = first_fresh m c.requires.regular;
      room = c.requires.room;
    })

pub connect_all-requires : goal.connect_all-requires
connect_all-requires c = record {
  long = c.requires.nets.long;
  unconnected = unconnected_grows (module_tree c.args.m.now) c.args.from c.args.nets.now c.args.nl.now c.act_items.new.nl c.in_ok-act_items.ensures.grows
      c.requires.free;
  fits = rw (sym (table_nets c.requires.names)) c.in_ok-act_items.ensures.nexts;
}

pub returns-clause-connects : goal.returns-clause-connects
returns-clause-connects c =
    let g = c.in_ok-act_items.ensures.grows in
    let k = c.connect_all.ensures.connects in
    record {
      carries = carries_trans (carries_extends c.args.from g.grows.extends) k.carries;
      memories = λ n w d h. k.memories n w d ((keeps_extends g.grows.extends).memories n w d h);
      inputs = k.inputs ∙ inputs_kept g;
      states = k.states ∙ ap (map _) (states_kept g);
      limit = k.limit ∙ g.grows.limit;
      outlets = k.outlets ∙ g.grows.outlets;
    }

pub returns-clause-steps : goal.returns-clause-steps
returns-clause-steps c = λ at named run is t l.
    let m = module_tree c.args.m.now in
    let items : map (item_tree c.args.m.now.words) c.deref.result.now ≡ (module_tree c.args.m.now).items = ap
    (map (item_tree c.args.m.now.words)) c.deref.ensures.value in
    let nexts : c.none-nexts.result ≡ first_nexts (module_tree c.args.m.now).nets =
    (let all = length-map c.args.m.now.nets.items (net_tree c.args.m.now.words) in
    let count = c.len.ensures in
    let e : c.len.result ≡ length (module_tree c.args.m.now).nets = omega arith in
    c.none-nexts.ensures ∙ ap (λ n. replicate n Keep) e) in
    let acts : ActsItems c.args.from (module_tree c.args.m.now).nets c.args.nets.now c.act_items.new.nl.cells
    (first_nexts (module_tree c.args.m.now).nets) c.act_items.new.nexts (module_tree c.args.m.now).items =
    rw (c.requires.names, items, nexts) at c.in_ok-act_items.ensures.acts in
    edge_steps m c.requires.regular c.requires.shape c.args.from c.args.nets.now c.act_items.new.nexts c.act_items.new.nl c.connect_all.new.nl c.requires.each
    c.connect_all.ensures.connects c.connect_all.ensures.fits c.connect_all.ensures.connected
    (items_next m c.args.from c.args.nets.now c.act_items.new.nl.cells c.act_items.new.nexts acts) at named run is t l
