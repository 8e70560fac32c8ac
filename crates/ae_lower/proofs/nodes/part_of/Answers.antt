use Rattle.std.proofs.Common.{◌≡◌, ◌∙◌, ◌<◌, ◌≤◌, ◌*◌, length, get_or, [], arith, ap, sym}
use Rattle.std.proofs.lemmas.List.{get_or_read}
use Rattle.ae_sttype.specs.StTree.{element_words}
use Rattle.ae_rewrite.specs.StProgramTree.{st_func_tree, st_node_tree}
use Rattle.ae_rewrite.specs.Sound.{item_layout, item_layouts}
use Rattle.ae_lower.proofs.Ready.{argument_at, only_low, ready_item}
use Rattle.ae_lower.proofs.WireNodes.{argument_columns, arguments_long, ready_part}
use Rattle.ae_lower.proofs.nodes.part_of.Goals as goal
use Rattle.ae_lower.proofs.nodes.part_of.Goals.{then-is_first, else-is_first}

pub element_words-k-requires : goal.element_words-k-requires
element_words-k-requires c =
    let one = ready_part c.requires.ready.0 (st_func_tree c.args.s.now)
    (st_node_tree c.args.node.now) c.args.args.now c.args.is_first c.requires.ready.1 c.requires.is in
    let low : 0 < length c.args.node.now.args.items = only_low c.args.node.now.args.items one.0 in
    let at : c.index.result.now ≡ get_or c.args.node.now.args.items 0 0 = get_or_read c.args.node.now.args.items 0 c.index.result.now low c.index.ensures 0 in
    rw (c.layout.ensures, at) (ready_item c.requires.ready.0 (st_func_tree c.args.s.now)
    (st_node_tree c.args.node.now) c.args.args.now 0 c.requires.ready.1 low).size

pub overflow_sub-from : goal.overflow_sub-from
overflow_sub-from c =
    let one = ready_part c.requires.ready.0 (st_func_tree c.args.s.now)
    (st_node_tree c.args.node.now) c.args.args.now c.args.is_first c.requires.ready.1 c.requires.is in
    let low : 0 < length c.args.node.now.args.items = only_low c.args.node.now.args.items one.0 in
    let at : c.index.result.now ≡ get_or c.args.node.now.args.items 0 0 = get_or_read c.args.node.now.args.items 0 c.index.result.now low c.index.ensures 0 in
    let words : c.element_words-k.result ≡ element_words (argument_at (st_func_tree c.args.s.now) (st_node_tree c.args.node.now) 0) =
    c.element_words-k.ensures ∙ ap element_words (c.layout.ensures ∙ ap (item_layout (item_layouts (st_func_tree c.args.s.now))) at) in
    omega (arith, one.1.inside, words, c.element_words-l.ensures)

pub parts-requires-clause-long : goal.parts-requires-clause-long
parts-requires-clause-long c =
    let one = ready_part c.requires.ready.0 (st_func_tree c.args.s.now)
    (st_node_tree c.args.node.now) c.args.args.now c.args.is_first c.requires.ready.1 c.requires.is in
    let low : 0 < length c.args.node.now.args.items = only_low c.args.node.now.args.items one.0 in
    let at : c.index.result.now ≡ get_or c.args.node.now.args.items 0 0 = get_or_read c.args.node.now.args.items 0 c.index.result.now low c.index.ensures 0 in
    let words : c.element_words-k.result ≡ element_words (argument_at (st_func_tree c.args.s.now) (st_node_tree c.args.node.now) 0) =
    c.element_words-k.ensures ∙ ap element_words (c.layout.ensures ∙ ap (item_layout (item_layouts (st_func_tree c.args.s.now))) at) in
    let there : 0 < length c.args.args.now = omega (
      arith,
      low,
      arguments_long c.requires.ready.0 (st_func_tree c.args.s.now) (st_node_tree c.args.node.now) c.args.args.now c.requires.ready.1,
    ) in
    let bundle : c.index-args-0.result ≡ get_or c.args.args.now 0 [] = get_or_read c.args.args.now 0 c.index-args-0.result there c.index-args-0.is [] in
    let long = argument_columns c.requires.ready.0 (st_func_tree c.args.s.now) (st_node_tree c.args.node.now) c.args.args.now 0 c.requires.ready.1 low in
    ap length (c.nets.ensures ∙ bundle) ∙ (long ∙ (ap (λ n. n * element_words (argument_at (st_func_tree c.args.s.now) (st_node_tree c.args.node.now) 0))
    (sym one.1.lanes ∙ sym c.lanes-count.ensures) ∙ ap (λ w. c.lanes-count.result * w) (sym words)))

pub parts-requires-clause-inside : goal.parts-requires-clause-inside
parts-requires-clause-inside c =
    let one = ready_part c.requires.ready.0 (st_func_tree c.args.s.now)
    (st_node_tree c.args.node.now) c.args.args.now c.args.is_first c.requires.ready.1 c.requires.is in
    let low : 0 < length c.args.node.now.args.items = only_low c.args.node.now.args.items one.0 in
    let at : c.index.result.now ≡ get_or c.args.node.now.args.items 0 0 = get_or_read c.args.node.now.args.items 0 c.index.result.now low c.index.ensures 0 in
    let words : c.element_words-k.result ≡ element_words (argument_at (st_func_tree c.args.s.now) (st_node_tree c.args.node.now) 0) =
    c.element_words-k.ensures ∙ ap element_words (c.layout.ensures ∙ ap (item_layout (item_layouts (st_func_tree c.args.s.now))) at) in
    let few : c.element_words-l.result ≤ c.element_words-k.result = omega (arith, one.1.inside, words, c.element_words-l.ensures) in
    elim c.if-is_first.branch [
      | then-is_first w ↦ (let e = w.from-is in omega (arith, e, few))
      | else-is_first w ↦ (let e = w.from-is in omega (arith, e, few))
    ]
