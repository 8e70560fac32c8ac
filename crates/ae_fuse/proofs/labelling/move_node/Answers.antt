use Rattle.std.proofs.Common.{◌≡◌, ◌∙◌, ◌∷◌, [], ℕ, List, Vec, Global, length, map, arith, sym, ap, subst}
use Rattle.std.proofs.lemmas.List.{length-map}
use Rattle.std.proofs.lemmas.Result.{IfOk-weaker}
use Rattle.ae_sttype.specs.StTree.{StTree, st_tree}
use Rattle.ae_rewrite.specs.StProgramTree.{st_func_tree, st_node_tree}
use Rattle.ae_rewrite.specs.Sound.{item_layouts}
use Rattle.ae_flow.specs.Flow.{layout_words, node_words}
use Rattle.ae_delay.specs.Moving.{op_move}
use Rattle.ae_gather.specs.Gathers.{origin_word}
use Rattle.ae_flow.specs.Fitted.{FitsMove}
use Rattle.ae_fuse.proofs.LabelSteps.{move-words, ready-item, ready-move}
use Rattle.ae_fuse.proofs.labelling.move_node.Goals as goal

pub argument-arg-requires : goal.argument-arg-requires
argument-arg-requires c =
    omega (
      arith,
      (ready-move (st_func_tree c.args.s.now) (st_node_tree c.args.node.now)
          (map (λ (w : Vec ℕ Global). w.items) c.args.labels.now) c.requires.ready c.args.how c.requires.is).some,
    )

pub layout-requires : goal.layout-requires
layout-requires c =
    ready-item (st_func_tree c.args.s.now) (st_node_tree c.args.node.now)
    (map (λ (w : Vec ℕ Global). w.items) c.args.labels.now) c.requires.ready c.argument-arg.result
    (c.requires.ready.args 0 c.argument-arg.result c.argument-arg.ensures)

pub moved_labels-requires-clause-arg : goal.moved_labels-requires-clause-arg
moved_labels-requires-clause-arg c =
    rw c.layout.ensures (c.requires.ready.sizes c.argument-arg.result
    (ready-item (st_func_tree c.args.s.now) (st_node_tree c.args.node.now)
    (map (λ (w : Vec ℕ Global). w.items) c.args.labels.now) c.requires.ready c.argument-arg.result
    (c.requires.ready.args 0 c.argument-arg.result c.argument-arg.ensures)))

pub moved_labels-requires-clause-fits : goal.moved_labels-requires-clause-fits
moved_labels-requires-clause-fits c =
    let one = ready-move (st_func_tree c.args.s.now) (st_node_tree c.args.node.now)
    (map (λ (w : Vec ℕ Global). w.items) c.args.labels.now) c.requires.ready c.args.how c.requires.is in
    subst (λ (t : StTree). FitsMove c.args.how t (st_tree c.args.node.now.ty)) (sym c.layout.ensures) (one.only c.argument-arg.result c.argument-arg.ensures).1

pub moved_labels-requires-clause-long : goal.moved_labels-requires-clause-long
moved_labels-requires-clause-long c =
    ap length c.labels_at.ensures ∙ c.requires.ready.long 0 c.argument-arg.result c.argument-arg.ensures ∙ ap layout_words (sym c.layout.ensures)

pub returns : goal.returns
returns c =
    let ls : List (List ℕ) = map (λ (w : Vec ℕ Global). w.items) c.args.labels.now in
    let s = st_func_tree c.args.s.now in
    let n = st_node_tree c.args.node.now in
    let one = ready-move s n ls c.requires.ready c.args.how c.requires.is in
    let a = c.argument-arg.result in
    let at = c.layout.ensures in
    let own = c.labels_at.ensures in
    let P : Vec ℕ Global → Type 0 = λ v. v.items ≡ map (origin_word (st_tree c.layout.result.now ∷ []) (c.labels_at.result.now ∷ []))
    (op_move c.args.how (st_tree c.layout.result.now) (st_tree c.args.node.now.ty)).origins in
    let Q : Vec ℕ Global → Type 0 = λ v. v.items ≡ node_words [] (item_layouts s) ls n in
    IfOk-weaker c.moved_labels.result P Q (λ v e. e
    ∙ (λ i. map (origin_word (at i ∷ []) (own i ∷ [])) (op_move c.args.how (at i) (st_tree c.args.node.now.ty)).origins)
    ∙ sym (move-words (item_layouts s) ls n c.args.how a c.requires.is (one.only a c.argument-arg.ensures).0)) c.moved_labels.ensures

pub labels_at-requires : goal.labels_at-requires
labels_at-requires c =
    omega (arith, c.requires.ready.args 0 c.argument-arg.result c.argument-arg.ensures, length-map c.args.labels.now (λ (w : Vec ℕ Global). w.items))
