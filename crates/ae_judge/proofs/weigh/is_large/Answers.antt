use Rattle.std.proofs.Common.{rules, ◌≡◌, ◌∙◌, ap, length, map, List}
use Rattle.std.proofs.lemmas.List.{length-map}
use Rattle.std.specs.Prelude.{min, sum_by}
use Rattle.ae_vmodule.specs.View.{item_tree, net_tree}
use Rattle.ae_vmodule.specs.declared.items.VItem.{VItem}
use Rattle.ae_judge.specs.Weight.{item_weight}
use Rattle.ae_judge.proofs.weigh.is_large.Goals as goal

pub returns : goal.returns
returns c =
    let ws = c.args.m.now.words in
    let w : c.items_weight.result ≡ min (sum_by item_weight (map (item_tree ws) c.args.m.now.items.items)) 10000001 =
    c.items_weight.ensures ws ∙ ap (λ (is : List VItem). min (sum_by item_weight (map (item_tree ws) is)) 10000001) c.deref.ensures.value in
    let n : length (map (net_tree ws) c.args.m.now.nets.items) ≡ length c.args.m.now.nets.items = length-map c.args.m.now.nets.items (net_tree ws) in
    search (rules, w, n)
