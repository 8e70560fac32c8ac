use Rattle.std.proofs.Common.{◌≡◌, ◌≤◌, ◌-◌, ◌*◌, if◌then◌else◌, true, false, Bool, ◌∙◌, [], ℕ, List, Vec, Global, length, map, arith, sym, ap, refl}
use Rattle.std.proofs.lemmas.List.{length-map}
use Rattle.std.proofs.lemmas.Result.{IfOk-weaker}
use Rattle.ae_sttype.specs.StTree.{element_words}
use Rattle.ae_rewrite.specs.StProgramTree.{st_func_tree, st_node_tree}
use Rattle.ae_rewrite.specs.Sound.{item_layout, item_layouts}
use Rattle.ae_flow.specs.Flow.{node_words}
use Rattle.ae_flow.specs.Flow.{parts}
use Rattle.ae_fuse.proofs.LabelSteps.{part-words, ready-item, ready-part}
use Rattle.ae_fuse.proofs.labelling.part_node.Goals as goal
use Rattle.ae_fuse.proofs.labelling.part_node.Goals.{then-is_first, else-is_first}

pub argument-arg-requires : goal.argument-arg-requires
argument-arg-requires c =
    omega (
      arith,
      (ready-part (st_func_tree c.args.s.now) (st_node_tree c.args.node.now)
          (map (λ (w : Vec ℕ Global). w.items) c.args.labels.now) c.requires.ready c.args.is_first c.requires.is).some,
    )

pub layout-requires : goal.layout-requires
layout-requires c =
    ready-item (st_func_tree c.args.s.now) (st_node_tree c.args.node.now)
    (map (λ (w : Vec ℕ Global). w.items) c.args.labels.now) c.requires.ready c.argument-arg.result
    (c.requires.ready.args 0 c.argument-arg.result c.argument-arg.ensures)

pub element_words-size-requires : goal.element_words-size-requires
element_words-size-requires c =
    rw c.layout.ensures (c.requires.ready.sizes c.argument-arg.result
    (ready-item (st_func_tree c.args.s.now) (st_node_tree c.args.node.now)
    (map (λ (w : Vec ℕ Global). w.items) c.args.labels.now) c.requires.ready c.argument-arg.result
    (c.requires.ready.args 0 c.argument-arg.result c.argument-arg.ensures)))

pub overflow_sub-from : goal.overflow_sub-from
overflow_sub-from c =
    let one = ready-part (st_func_tree c.args.s.now) (st_node_tree c.args.node.now)
    (map (λ (w : Vec ℕ Global). w.items) c.args.labels.now) c.requires.ready c.args.is_first c.requires.is in
    let own = (one.only c.argument-arg.result c.argument-arg.ensures).1 in
    let wide : c.element_words-size.result ≡ element_words
    (item_layout (item_layouts (st_func_tree c.args.s.now)) c.argument-arg.result) = c.element_words-size.ensures ∙ ap element_words c.layout.ensures in
    omega (arith, own.1, wide, c.element_words-part.ensures)

pub labels_at-requires : goal.labels_at-requires
labels_at-requires c =
    omega (arith, c.requires.ready.args 0 c.argument-arg.result c.argument-arg.ensures, length-map c.args.labels.now (λ (w : Vec ℕ Global). w.items))

pub part_labels-requires-clause-long : goal.part_labels-requires-clause-long
part_labels-requires-clause-long c =
    let one = ready-part (st_func_tree c.args.s.now) (st_node_tree c.args.node.now)
    (map (λ (w : Vec ℕ Global). w.items) c.args.labels.now) c.requires.ready c.args.is_first c.requires.is in
    let own = (one.only c.argument-arg.result c.argument-arg.ensures).1 in
    let wide : c.element_words-size.result ≡ element_words
    (item_layout (item_layouts (st_func_tree c.args.s.now)) c.argument-arg.result) = c.element_words-size.ensures ∙ ap element_words c.layout.ensures in
    ap length c.labels_at.ensures ∙ c.requires.ready.long 0 c.argument-arg.result c.argument-arg.ensures
    ∙ (λ i. (own.0 ∙ sym c.atoms-count.ensures) i * sym wide i)

pub part_labels-requires-clause-inside : goal.part_labels-requires-clause-inside
part_labels-requires-clause-inside c =
    let one = ready-part (st_func_tree c.args.s.now) (st_node_tree c.args.node.now)
    (map (λ (w : Vec ℕ Global). w.items) c.args.labels.now) c.requires.ready c.args.is_first c.requires.is in
    let own = (one.only c.argument-arg.result c.argument-arg.ensures).1 in
    let wide : c.element_words-size.result ≡ element_words
    (item_layout (item_layouts (st_func_tree c.args.s.now)) c.argument-arg.result) = c.element_words-size.ensures ∙ ap element_words c.layout.ensures in
    let few : c.element_words-part.result ≤ c.element_words-size.result = omega (arith, own.1, wide, c.element_words-part.ensures) in
    elim c.if-is_first.branch [
      | then-is_first w ↦ (let e = w.from-is in omega (arith, e, few))
      | else-is_first w ↦ (let e = w.from-is in omega (arith, e, few))
    ]

start-is : (b : Bool) (from whole part : ℕ) → (b ≡ true → from ≡ 0) → (b ≡ false → from ≡ whole - part) → from ≡ (if b then 0 else whole - part)
start-is true from whole part h g = h refl
start-is false from whole part h g = g refl

pub returns : goal.returns
returns c =
    let ls : List (List ℕ) = map (λ (w : Vec ℕ Global). w.items) c.args.labels.now in
    let s = st_func_tree c.args.s.now in
    let n = st_node_tree c.args.node.now in
    let one = ready-part s n ls c.requires.ready c.args.is_first c.requires.is in
    let a = c.argument-arg.result in
    let count = c.atoms-count.ensures in
    let wide : c.element_words-size.result ≡ element_words (item_layout (item_layouts s) a) = c.element_words-size.ensures ∙
    ap element_words c.layout.ensures in
    let part = c.element_words-part.ensures in
    let us = c.labels_at.ensures in
    let start : c.if-is_first.from ≡ (if c.args.is_first then 0 else element_words (item_layout (item_layouts s) a) - element_words n.type) =
    elim c.if-is_first.branch [
      | then-is_first w ↦ start-is c.args.is_first c.if-is_first.from _ _ (λ h. w.from-is) (λ h. absurd (cc))
      | else-is_first w ↦ start-is c.args.is_first c.if-is_first.from _ _ (λ h. absurd (cc)) (λ h. w.from-is ∙ (λ i. wide i - part i))
    ] in
    let P : Vec ℕ Global → Type 0 = λ v. v.items ≡ parts c.atoms-count.result c.element_words-size.result c.if-is_first.from c.element_words-part.result
    c.labels_at.result.now in
    let Q : Vec ℕ Global → Type 0 = λ v. v.items ≡ node_words [] (item_layouts s) ls n in
    IfOk-weaker c.part_labels.result P Q (λ v e. e ∙ (λ i. parts (count i) (wide i) (start i) (part i) (us i))
    ∙ sym (part-words (item_layouts s) ls n c.args.is_first a c.requires.is (one.only a c.argument-arg.ensures).0)) c.part_labels.ensures
