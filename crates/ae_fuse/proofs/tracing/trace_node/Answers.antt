use Rattle.std.proofs.Common.{◌≡◌, ◌∙◌, ℕ, ◌+◌, List, Vec, Global, Some, slice_get, length, map, ap, arith, sym}
use Rattle.std.proofs.lemmas.List.{length-map}
use Rattle.ae_sttype.specs.StTree.{st_tree}
use Rattle.ae_moves.specs.Origins.{move_latency}
use Rattle.ae_moves.proofs.Lists.{get_mapped}
use Rattle.ae_rewrite.specs.StProgramTree.{st_func_tree, st_node_tree}
use Rattle.ae_rewrite.specs.Sound.{item_layout, item_layouts}
use Rattle.ae_flow.specs.Flow.{words_at}
use Rattle.ae_fuse.specs.Labels.{labelled_origin}
use Rattle.ae_fuse.specs.Moved.{own_labels}
use Rattle.ae_fuse.proofs.ItemSteps.{node-moving}
use Rattle.ae_fuse.proofs.NodeSteps.{long-here, own-here, ready-here, size-here}
use Rattle.ae_fuse.proofs.ResultSteps.{a_move}
use Rattle.ae_fuse.proofs.tracing.trace_node.Goals as goal
use Rattle.ae_flow.proofs.Flowing.{node_layout as layout-of-node}

pub node_labels-requires-clause-ready : goal.node_labels-requires-clause-ready
node_labels-requires-clause-ready c =
    let s = st_func_tree c.args.s.now in
    let n = st_node_tree c.node_at-node.result.now in
    let found : slice_get s.nodes c.args.j ≡ Some n = get_mapped st_node_tree c.args.s.now.nodes.items c.args.j c.node_at-node.result.now
    c.node_at-node.ensures in
    let ls : List (List ℕ) = map (λ (w : Vec ℕ Global). w.items) c.args.labels.now in
    let many : length ls ≡ length s.ins + c.args.j = omega (
      arith,
      length-map c.args.labels.now (λ (w : Vec ℕ Global). w.items),
      c.requires.many,
      length-map c.args.s.now.ins.items st_tree,
    ) in
    ready-here s c.requires.movable c.args.j n found ls many (λ i a at. c.requires.labels n i a found at)

pub node_labels-requires-clause-moves : goal.node_labels-requires-clause-moves
node_labels-requires-clause-moves c =
    let s = st_func_tree c.args.s.now in
    let n = st_node_tree c.node_at-node.result.now in
    let found : slice_get s.nodes c.args.j ≡ Some n = get_mapped st_node_tree c.args.s.now.nodes.items c.args.j c.node_at-node.result.now
    c.node_at-node.ensures in
    node-moving s.nodes c.args.j n c.requires.movable.words.moving found

pub item_arrival-requires-clause-size : goal.item_arrival-requires-clause-size
item_arrival-requires-clause-size c =
    let s = st_func_tree c.args.s.now in
    let n = st_node_tree c.node_at-node.result.now in
    let found : slice_get s.nodes c.args.j ≡ Some n = get_mapped st_node_tree c.args.s.now.nodes.items c.args.j c.node_at-node.result.now
    c.node_at-node.ensures in
    size-here s c.requires.movable c.args.j n found

pub item_arrival-requires-clause-long : goal.item_arrival-requires-clause-long
item_arrival-requires-clause-long c =
    let s = st_func_tree c.args.s.now in
    let n = st_node_tree c.node_at-node.result.now in
    let found : slice_get s.nodes c.args.j ≡ Some n = get_mapped st_node_tree c.args.s.now.nodes.items c.args.j c.node_at-node.result.now
    c.node_at-node.ensures in
    let ls : List (List ℕ) = map (λ (w : Vec ℕ Global). w.items) c.args.labels.now in
    let own = own-here s c.requires.movable c.args.j n found ls (λ i a at. c.requires.labels n i a found at) in
    ap length (c.deref.ensures.value ∙ c.in_ok-own.ensures ∙ own) ∙ long-here s c.requires.movable c.args.j n found

pub returns-clause-labels : goal.returns-clause-labels
returns-clause-labels c =
    let s = st_func_tree c.args.s.now in
    let n = st_node_tree c.node_at-node.result.now in
    let found : slice_get s.nodes c.args.j ≡ Some n = get_mapped st_node_tree c.args.s.now.nodes.items c.args.j c.node_at-node.result.now
    c.node_at-node.ensures in
    let ls : List (List ℕ) = map (λ (w : Vec ℕ Global). w.items) c.args.labels.now in
    let own = own-here s c.requires.movable c.args.j n found ls (λ i a at. c.requires.labels n i a found at) in
    c.in_ok-own.ensures ∙ own ∙ ap (λ k. words_at (own_labels s) (k + c.args.j)) (length-map c.args.s.now.ins.items st_tree)

pub returns-clause-arrival : goal.returns-clause-arrival
returns-clause-arrival c =
    let s = st_func_tree c.args.s.now in
    let n = st_node_tree c.node_at-node.result.now in
    let found : slice_get s.nodes c.args.j ≡ Some n = get_mapped st_node_tree c.args.s.now.nodes.items c.args.j c.node_at-node.result.now
    c.node_at-node.ensures in
    let ls : List (List ℕ) = map (λ (w : Vec ℕ Global). w.items) c.args.labels.now in
    let place : length s.ins ≡ length c.args.s.now.ins.items = length-map c.args.s.now.ins.items st_tree in
    let own = own-here s c.requires.movable c.args.j n found ls (λ i a at. c.requires.labels n i a found at) in
    let words : c.deref.result.now ≡ words_at (own_labels s) (length c.args.s.now.ins.items + c.args.j) = c.deref.ensures.value ∙ c.in_ok-own.ensures ∙ own ∙
    ap (λ k. words_at (own_labels s) (k + c.args.j)) place in
    let layout : n.type ≡ item_layout (item_layouts s) (length c.args.s.now.ins.items + c.args.j) = sym (layout-of-node s c.args.j n found) ∙
    ap (λ k. item_layout (item_layouts s) (k + c.args.j)) place in
    c.in_ok-arrival.ensures s.ins c.requires.sources ∙ (λ i. move_latency (a_move s.ins (layout i) (map (labelled_origin s.ins) (words i))))
