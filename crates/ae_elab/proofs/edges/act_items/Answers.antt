use Rattle.std.proofs.Common.{◌≡◌, ◌+◌, ◌*◌, ◌<◌, ◌∷◌, length, map, drop, rules, subst, arith}
use Rattle.std.specs.List.{sum_by}
use Rattle.ae_vmodule.specs.View.{item_tree}
use Rattle.ae_netlist.specs.Room.{HasRoom}
use Rattle.ae_assign.specs.Edges.{edge_weight}
use Rattle.std.proofs.lemmas.List.Sums.{sum_by-cons}
use Rattle.ae_express.proofs.NetLaws.{nets_grow}
use Rattle.ae_elab.proofs.EdgeItems.{AreActing, drop_done, drop_turn, items_done, items_fresh, items_step}
use Rattle.ae_elab.proofs.edges.act_items.Goals as goal

pub act_item-requires : goal.act_item-requires
act_item-requires c =
    let l : c.loop-item.item-index < length c.args.items.now = omega arith in
    let turn = drop_turn (item_tree c.args.names.now.words) c.args.items.now c.loop-item.item-index c.item-item.result l c.item-item.is in
    let rest = drop (c.loop-item.item-index + 1) (map (item_tree c.args.names.now.words) c.args.items.now) in
    let whole = map (item_tree c.args.names.now.words) c.args.items.now in
    let i = item_tree c.args.names.now.words c.item-item.result in
    let here = subst (λ u. AreActing c.args.from c.args.names.now.nets c.args.nets.now c.args.nl.now c.loop-item.nl c.args.nexts.now
    c.loop-item.nexts
    whole u) turn c.loop-item.invariant in
    let had = c.requires.room in
    let few = here.few in
    let limit = here.grows.grows.limit in
    let more = here.more in
    let sum : sum_by edge_weight (i ∷ rest) ≡ edge_weight i + sum_by edge_weight rest = sum_by-cons edge_weight i rest in
    let room : HasRoom c.loop-item.nl (8 * edge_weight (item_tree c.args.names.now.words c.item-item.result)) = omega arith in
    let active = here.active in
    search (
      rules,
      active.0,
      here.nexts,
      items_fresh c.args.from c.args.names.now.nets c.args.nets.now c.args.nl.now c.args.nexts.now whole c.loop-item.nl
          c.loop-item.nexts i rest here,
      room,
      nets_grow here.grows c.requires.nets,
    )

pub loop-item-preserved : goal.loop-item-preserved
loop-item-preserved c =
    let l : c.loop-item.item-index < length c.args.items.now = omega arith in
    let turn = drop_turn (item_tree c.args.names.now.words) c.args.items.now c.loop-item.item-index c.item-item.result l c.item-item.is in
    let rest = drop (c.loop-item.item-index + 1) (map (item_tree c.args.names.now.words) c.args.items.now) in
    let whole = map (item_tree c.args.names.now.words) c.args.items.now in
    let here = subst (λ u. AreActing c.args.from c.args.names.now.nets c.args.nets.now c.args.nl.now c.loop-item.nl c.args.nexts.now
    c.loop-item.nexts
    whole u) turn c.loop-item.invariant in
    items_step c.args.from c.args.names.now.nets c.args.nets.now c.args.nl.now c.args.nexts.now whole c.loop-item.nl c.act_item.new.nl
    c.loop-item.nexts
    c.act_item.new.nexts (item_tree c.args.names.now.words c.item-item.result) rest here
    c.in_ok-act_item.ensures.adds.grows c.in_ok-act_item.ensures.adds.more c.in_ok-act_item.ensures.adds.few
    c.in_ok-act_item.ensures.nexts c.in_ok-act_item.ensures.others c.in_ok-act_item.ensures.acts

pub returns-clause-acts : goal.returns-clause-acts
returns-clause-acts c =
    let whole = map (item_tree c.args.names.now.words) c.args.items.now in
    let done = drop_done (item_tree c.args.names.now.words) c.args.items.now c.loop-item.item-index (omega arith) in
    items_done c.args.from c.args.names.now.nets c.args.nets.now c.args.nl.now c.args.nexts.now whole c.loop-item.nl c.loop-item.nexts
    (subst (λ u. AreActing c.args.from c.args.names.now.nets c.args.nets.now c.args.nl.now c.loop-item.nl c.args.nexts.now c.loop-item.nexts whole
    u)
    done c.loop-item.invariant)
