use Rattle.std.proofs.Common.{◌≡◌, ◌∙◌, ◌<◌, ◌*◌, length, get_or, [], arith, ap, sym}
use Rattle.std.proofs.lemmas.List.{get_or_read}
use Rattle.ae_sttype.specs.StTree.{element_words}
use Rattle.ae_rewrite.specs.StProgramTree.{st_func_tree, st_node_tree}
use Rattle.ae_rewrite.specs.Sound.{item_layout, item_layouts}
use Rattle.ae_lower.proofs.Ready.{argument_at, ready_below, ready_item}
use Rattle.ae_lower.proofs.WireNodes.{argument_columns, arguments_long, ready_join, two_long}
use Rattle.ae_lower.proofs.nodes.pairs_of.Goals as goal

pub element_words-k-requires : goal.element_words-k-requires
element_words-k-requires c =
    let two = ready_join c.requires.ready.0 (st_func_tree c.args.s.now) (st_node_tree c.args.node.now) c.args.args.now c.requires.ready.1 c.requires.is in
    let low : 0 < length c.args.node.now.args.items = omega (arith, two_long c.args.node.now.args.items two.0) in
    let at : c.index.result.now ≡ get_or c.args.node.now.args.items 0 0 = get_or_read c.args.node.now.args.items 0 c.index.result.now low c.index.ensures 0 in
    rw (c.layout.ensures, at) (ready_item c.requires.ready.0 (st_func_tree c.args.s.now)
    (st_node_tree c.args.node.now) c.args.args.now 0 c.requires.ready.1 low).size

pub layout-requires-2 : goal.layout-requires-2
layout-requires-2 c =
    let two = ready_join c.requires.ready.0 (st_func_tree c.args.s.now) (st_node_tree c.args.node.now) c.args.args.now c.requires.ready.1 c.requires.is in
    let low : 1 < length c.args.node.now.args.items = omega (arith, two_long c.args.node.now.args.items two.0) in
    let at : c.index-2.result.now ≡ get_or c.args.node.now.args.items 1 0 = get_or_read c.args.node.now.args.items 1 c.index-2.result.now low c.index-2.ensures
    0 in
    rw at (ready_below c.requires.ready.0 (st_func_tree c.args.s.now) (st_node_tree c.args.node.now) c.args.args.now 1 c.requires.ready.1 low)

pub element_words-l-requires : goal.element_words-l-requires
element_words-l-requires c =
    let two = ready_join c.requires.ready.0 (st_func_tree c.args.s.now) (st_node_tree c.args.node.now) c.args.args.now c.requires.ready.1 c.requires.is in
    let low : 1 < length c.args.node.now.args.items = omega (arith, two_long c.args.node.now.args.items two.0) in
    let at : c.index-2.result.now ≡ get_or c.args.node.now.args.items 1 0 = get_or_read c.args.node.now.args.items 1 c.index-2.result.now low c.index-2.ensures
    0 in
    rw (c.layout-2.ensures, at) (ready_item c.requires.ready.0 (st_func_tree c.args.s.now)
    (st_node_tree c.args.node.now) c.args.args.now 1 c.requires.ready.1 low).size

pub pairs-requires-clause-first : goal.pairs-requires-clause-first
pairs-requires-clause-first c =
    let two = ready_join c.requires.ready.0 (st_func_tree c.args.s.now) (st_node_tree c.args.node.now) c.args.args.now c.requires.ready.1 c.requires.is in
    let low : 0 < length c.args.node.now.args.items = omega (arith, two_long c.args.node.now.args.items two.0) in
    let at : c.index.result.now ≡ get_or c.args.node.now.args.items 0 0 = get_or_read c.args.node.now.args.items 0 c.index.result.now low c.index.ensures 0 in
    let words : c.element_words-k.result ≡ element_words (argument_at (st_func_tree c.args.s.now) (st_node_tree c.args.node.now) 0) =
    c.element_words-k.ensures ∙ ap element_words (c.layout.ensures ∙ ap (item_layout (item_layouts (st_func_tree c.args.s.now))) at) in
    let there : 0 < length c.args.args.now = omega (
      arith,
      low,
      arguments_long c.requires.ready.0 (st_func_tree c.args.s.now) (st_node_tree c.args.node.now) c.args.args.now c.requires.ready.1,
    ) in
    let bundle : c.index-args-0.result ≡ get_or c.args.args.now 0 [] = get_or_read c.args.args.now 0 c.index-args-0.result there c.index-args-0.is [] in
    let long = argument_columns c.requires.ready.0 (st_func_tree c.args.s.now) (st_node_tree c.args.node.now) c.args.args.now 0 c.requires.ready.1 low in
    ap length (c.nets.ensures ∙ bundle) ∙ (long ∙ (ap (λ n. n * element_words (argument_at (st_func_tree c.args.s.now) (st_node_tree c.args.node.now) 0))
    (two.1.first.lanes ∙ sym c.lanes-count.ensures) ∙ ap (λ w. c.lanes-count.result * w) (sym words)))

pub pairs-requires-clause-second : goal.pairs-requires-clause-second
pairs-requires-clause-second c =
    let two = ready_join c.requires.ready.0 (st_func_tree c.args.s.now) (st_node_tree c.args.node.now) c.args.args.now c.requires.ready.1 c.requires.is in
    let low : 1 < length c.args.node.now.args.items = omega (arith, two_long c.args.node.now.args.items two.0) in
    let at : c.index-2.result.now ≡ get_or c.args.node.now.args.items 1 0 = get_or_read c.args.node.now.args.items 1 c.index-2.result.now low c.index-2.ensures
    0 in
    let words : c.element_words-l.result ≡ element_words (argument_at (st_func_tree c.args.s.now) (st_node_tree c.args.node.now) 1) =
    c.element_words-l.ensures ∙ ap element_words (c.layout-2.ensures ∙ ap (item_layout (item_layouts (st_func_tree c.args.s.now))) at) in
    let there : 1 < length c.args.args.now = omega (
      arith,
      low,
      arguments_long c.requires.ready.0 (st_func_tree c.args.s.now) (st_node_tree c.args.node.now) c.args.args.now c.requires.ready.1,
    ) in
    let bundle : c.index-args-1.result ≡ get_or c.args.args.now 1 [] = get_or_read c.args.args.now 1 c.index-args-1.result there c.index-args-1.is [] in
    let long = argument_columns c.requires.ready.0 (st_func_tree c.args.s.now) (st_node_tree c.args.node.now) c.args.args.now 1 c.requires.ready.1 low in
    ap length (c.nets-2.ensures ∙ bundle) ∙ (long ∙ (ap (λ n. n * element_words (argument_at (st_func_tree c.args.s.now) (st_node_tree c.args.node.now) 1))
    (two.1.second.lanes ∙ sym c.lanes-count.ensures) ∙ ap (λ w. c.lanes-count.result * w) (sym words)))
