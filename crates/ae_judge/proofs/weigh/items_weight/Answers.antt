use Rattle.std.proofs.Common.{◌∙◌, ap}
use Rattle.std.specs.Prelude.{min}
use Rattle.ae_vmodule.specs.View.{item_tree}
use Rattle.ae_vmodule.specs.declared.items.VItem.{VItem}
use Rattle.ae_judge.specs.Weight.{item_weight}
use Rattle.ae_judge.proofs.Weighing.{weight_next, weight_end}
use Rattle.ae_judge.proofs.weigh.items_weight.Goals as goal

pub item-preserved : goal.item-preserved
item-preserved c ws =
    c.heavier-total.ensures
    ∙ weight_next item_weight (item_tree ws) 10000001 c.args.items.now c.item.item-index c.item-item.result c.item.total c.item_weight.result c.item-test.true
    (c.item.invariant ws) (c.item_weight.ensures ws ∙ ap (λ (i : VItem). min (item_weight (item_tree ws i)) 10000001) c.item-item.is)

pub returns : goal.returns
returns c ws = weight_end item_weight (item_tree ws) 10000001 c.args.items.now c.item.item-index c.item.total c.item-test.false (c.item.invariant ws)
