use Rattle.std.proofs.Common.{◌≡◌, [], ◌∷◌, sym, ap, ◌∙◌, subst}
use Rattle.ae_vmodule.specs.Items.{parts_item}
use Rattle.ae_vmodule.specs.ModuleTree.{always}
use Rattle.ae_vmodule.specs.Roots.{numbered_stmt}
use Rattle.ae_vmodule.specs.View.{item_tree, stmt_tree, word_at}
use Rattle.ae_vmodule.specs.declared.items.ItemParts.{ItemParts}
use Rattle.ae_assign.specs.Edges.{ActsItems}
use Rattle.ae_elab.proofs.EdgeItems.{always_acts}
use Rattle.ae_elab.proofs.edges.act_item.Goals as goal

pub returns-in_ok-act-in-Always-clause-acts : goal.returns-in_ok-act-in-Always-clause-acts
returns-in_ok-act-in-Always-clause-acts c =
    let ws = c.args.names.now.words in
    let e : item_tree ws c.args.item.now ≡ always (word_at ws c.in-Always.clock) (stmt_tree ws (numbered_stmt c.in-Always.body)) =
    ap (item_tree ws) (sym c.parts.ensures) ∙ ap (λ (x : ItemParts). item_tree ws (parts_item x)) c.in-Always.is in
    subst (λ i. ActsItems c.args.from c.args.names.now.nets c.args.nets.now c.act.new.nl.cells c.args.nexts.now c.act.new.nexts (i ∷ [])) (sym e)
    (always_acts c.args.from c.args.names.now.nets c.args.nets.now c.args.nl.now.cells c.act.new.nl.cells c.args.nexts.now c.act.new.nexts
    (word_at ws c.in-Always.clock) (stmt_tree ws (numbered_stmt c.in-Always.body)) c.in_ok-act-in-Always.ensures.acts)
