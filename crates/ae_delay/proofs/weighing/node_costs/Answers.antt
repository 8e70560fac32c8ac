use Rattle.std.proofs.Common.{ap, rules, sym, ◌∙◌, ◌≡◌, ◌<◌, length, slice_get}
use Rattle.std.proofs.lemmas.List.{get_or_read}
use Rattle.std.specs.Prelude.{unwrap_or}
use Rattle.std.proofs.lemmas.Option.{unwrap_or-slice_get}
use Rattle.ae_sttype.specs.StTree.{st_tree}
use Rattle.ae_rewrite.specs.StProgramTree.{body, st_func_tree, st_op_tree}
use Rattle.ae_rewrite.specs.Sound.{item_layout, item_layouts}
use Rattle.ae_delay.specs.OwnCosts.{constant_costs, moved_costs}
use Rattle.ae_delay.proofs.Items.{body_is, cost_there, fixed_is, known_as, move_is, one_arg}
use Rattle.ae_delay.proofs.weighing.node_costs.Goals as goal

pub returns-in_ok-costs-in-Fixed : goal.returns-in_ok-costs-in-Fixed
returns-in_ok-costs-in-Fixed c = λ costs known.
    known_as c.light-in-Fixed.result c.constant_costs.result _
    (c.constant_costs.ensures.costs ∙ ap constant_costs (c.in_ok-costs-in-Fixed.ensures.costs)
    ∙ fixed_is costs _ c.in-Fixed.words.items (item_layout (item_layouts (st_func_tree c.args.s.now)) (unwrap_or (slice_get c.args.node.now.args.items 0) 0))
    (st_tree c.args.node.now.ty) c.args.node.now.copies _ (ap st_op_tree c.in-Fixed.is) c.deref.ensures.value)
    c.light-in-Fixed.ensures

pub returns-in_ok-costs-in-Move : goal.returns-in_ok-costs-in-Move
returns-in_ok-costs-in-Move c = λ costs known.
    let low : 0 < length c.args.node.now.args.items = one_arg _ _ _ c.args.node.now.args.items _ (st_op_tree c.args.node.now.op) c.in-Move.how
    (ap st_op_tree c.in-Move.is) c.requires.sound.op in
    let first : c.index.result.now ≡ unwrap_or (slice_get c.args.node.now.args.items 0) 0 =
    get_or_read c.args.node.now.args.items 0 c.index.result.now low c.index.ensures 0 ∙ sym (unwrap_or-slice_get c.args.node.now.args.items 0 0) in
    known_as c.light-in-Move.result c.moved_costs.result _
    (c.moved_costs.ensures.costs ∙ ap moved_costs (c.in_ok-costs-in-Move.ensures.costs)
    ∙ move_is costs c.in-Move.how _ (item_layout (item_layouts (st_func_tree c.args.s.now)) (unwrap_or (slice_get c.args.node.now.args.items 0) 0))
    (st_tree c.args.node.now.ty) c.args.node.now.copies _ (ap st_op_tree c.in-Move.is)
    (c.layout.ensures ∙ ap (item_layout (item_layouts (st_func_tree c.args.s.now))) first))
    c.light-in-Move.ensures

pub returns-in-Body : goal.returns-in-Body
returns-in-Body c = λ costs known.
    let op : st_op_tree c.args.node.now.op ≡ body c.in-Body.k = ap st_op_tree c.in-Body.is in
    let low : c.in-Body.k < length c.args.known.now = search (rules) in
    let there = cost_there c.args.known.now costs c.in-Body.k known low in
    known_as c.body_node.result _ _
    (body_is costs c.in-Body.k c.args.node.now.copies (item_layout (item_layouts (st_func_tree c.args.s.now))
    (unwrap_or (slice_get c.args.node.now.args.items 0) 0))
    (st_tree c.args.node.now.ty) (st_op_tree c.args.node.now.op) _ op there)
    (c.body_node.ensures costs _ known there)
