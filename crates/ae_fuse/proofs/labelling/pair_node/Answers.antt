use Rattle.std.proofs.Common.{◌≡◌, ◌*◌, ◌∙◌, [], ℕ, List, Vec, Global, length, map, arith, sym, ap}
use Rattle.std.proofs.lemmas.List.{length-map}
use Rattle.std.proofs.lemmas.Result.{IfOk-weaker}
use Rattle.ae_sttype.specs.StTree.{element_words}
use Rattle.ae_rewrite.specs.StProgramTree.{st_func_tree, st_node_tree}
use Rattle.ae_rewrite.specs.Sound.{item_layout, item_layouts}
use Rattle.ae_flow.specs.Flow.{node_words}
use Rattle.ae_eval.specs.Stack.{paired}
use Rattle.ae_fuse.proofs.LabelSteps.{pair-sizes, pair-words, ready-item, ready-pair}
use Rattle.ae_fuse.proofs.labelling.pair_node.Goals as goal

pub argument-one-requires : goal.argument-one-requires
argument-one-requires c =
    omega (
      arith,
      (ready-pair (st_func_tree c.args.s.now) (st_node_tree c.args.node.now)
          (map (λ (w : Vec ℕ Global). w.items) c.args.labels.now) c.requires.ready c.requires.is).some,
    )

pub argument-two-requires : goal.argument-two-requires
argument-two-requires c =
    omega (
      arith,
      (ready-pair (st_func_tree c.args.s.now) (st_node_tree c.args.node.now)
          (map (λ (w : Vec ℕ Global). w.items) c.args.labels.now) c.requires.ready c.requires.is).some,
    )

pub layout-requires : goal.layout-requires
layout-requires c =
    ready-item (st_func_tree c.args.s.now) (st_node_tree c.args.node.now)
    (map (λ (w : Vec ℕ Global). w.items) c.args.labels.now) c.requires.ready c.argument-one.result
    (c.requires.ready.args 0 c.argument-one.result c.argument-one.ensures)

pub layout-requires-2 : goal.layout-requires-2
layout-requires-2 c =
    ready-item (st_func_tree c.args.s.now) (st_node_tree c.args.node.now)
    (map (λ (w : Vec ℕ Global). w.items) c.args.labels.now) c.requires.ready c.argument-two.result
    (c.requires.ready.args 1 c.argument-two.result c.argument-two.ensures)

pub element_words-size-requires : goal.element_words-size-requires
element_words-size-requires c =
    rw c.layout.ensures (c.requires.ready.sizes c.argument-one.result
    (ready-item (st_func_tree c.args.s.now) (st_node_tree c.args.node.now)
    (map (λ (w : Vec ℕ Global). w.items) c.args.labels.now) c.requires.ready c.argument-one.result
    (c.requires.ready.args 0 c.argument-one.result c.argument-one.ensures)))

pub element_words-other-requires : goal.element_words-other-requires
element_words-other-requires c =
    rw c.layout-2.ensures (c.requires.ready.sizes c.argument-two.result
    (ready-item (st_func_tree c.args.s.now) (st_node_tree c.args.node.now)
    (map (λ (w : Vec ℕ Global). w.items) c.args.labels.now) c.requires.ready c.argument-two.result
    (c.requires.ready.args 1 c.argument-two.result c.argument-two.ensures)))

pub labels_at-requires : goal.labels_at-requires
labels_at-requires c =
    omega (arith, c.requires.ready.args 0 c.argument-one.result c.argument-one.ensures, length-map c.args.labels.now (λ (w : Vec ℕ Global). w.items))

pub labels_at-requires-2 : goal.labels_at-requires-2
labels_at-requires-2 c =
    omega (arith, c.requires.ready.args 1 c.argument-two.result c.argument-two.ensures, length-map c.args.labels.now (λ (w : Vec ℕ Global). w.items))

pub paired_labels-requires-clause-first : goal.paired_labels-requires-clause-first
paired_labels-requires-clause-first c =
    let two = ready-pair (st_func_tree c.args.s.now) (st_node_tree c.args.node.now)
    (map (λ (w : Vec ℕ Global). w.items) c.args.labels.now) c.requires.ready c.requires.is in
    let z = pair-sizes _ _ _ (two.only c.argument-one.result c.argument-two.result c.argument-one.ensures c.argument-two.ensures).1 in
    let wide : c.element_words-size.result ≡ element_words
    (item_layout (item_layouts (st_func_tree c.args.s.now)) c.argument-one.result) = c.element_words-size.ensures ∙ ap element_words c.layout.ensures in
    ap length c.labels_at.ensures ∙ c.requires.ready.long 0 c.argument-one.result c.argument-one.ensures
    ∙ (λ i. (z.0 ∙ sym c.atoms-count.ensures) i * sym wide i)

pub paired_labels-requires-clause-second : goal.paired_labels-requires-clause-second
paired_labels-requires-clause-second c =
    let two = ready-pair (st_func_tree c.args.s.now) (st_node_tree c.args.node.now)
    (map (λ (w : Vec ℕ Global). w.items) c.args.labels.now) c.requires.ready c.requires.is in
    let z = pair-sizes _ _ _ (two.only c.argument-one.result c.argument-two.result c.argument-one.ensures c.argument-two.ensures).1 in
    let wide : c.element_words-other.result ≡ element_words
    (item_layout (item_layouts (st_func_tree c.args.s.now)) c.argument-two.result) = c.element_words-other.ensures ∙ ap element_words c.layout-2.ensures in
    ap length c.labels_at-2.ensures ∙ c.requires.ready.long 1 c.argument-two.result c.argument-two.ensures
    ∙ (λ i. (z.1 ∙ sym c.atoms-count.ensures) i * sym wide i)

pub returns : goal.returns
returns c =
    let ls : List (List ℕ) = map (λ (w : Vec ℕ Global). w.items) c.args.labels.now in
    let s = st_func_tree c.args.s.now in
    let n = st_node_tree c.args.node.now in
    let two = ready-pair s n ls c.requires.ready c.requires.is in
    let wide : c.element_words-size.result ≡ element_words (item_layout (item_layouts s) c.argument-one.result) = c.element_words-size.ensures ∙
    ap element_words c.layout.ensures in
    let other : c.element_words-other.result ≡ element_words (item_layout (item_layouts s) c.argument-two.result) = c.element_words-other.ensures ∙
    ap element_words c.layout-2.ensures in
    let count = c.atoms-count.ensures in
    let us = c.labels_at.ensures in
    let vs = c.labels_at-2.ensures in
    let P : Vec ℕ Global → Type 0 = λ v. v.items ≡ paired c.atoms-count.result c.element_words-size.result c.element_words-other.result c.labels_at.result.now
    c.labels_at-2.result.now in
    let Q : Vec ℕ Global → Type 0 = λ v. v.items ≡ node_words [] (item_layouts s) ls n in
    IfOk-weaker c.paired_labels.result P Q (λ v e. e ∙ (λ i. paired (count i) (wide i) (other i) (us i) (vs i))
    ∙ sym (pair-words (item_layouts s) ls n c.argument-one.result c.argument-two.result c.requires.is
    (two.only c.argument-one.result c.argument-two.result c.argument-one.ensures c.argument-two.ensures).0)) c.paired_labels.ensures
