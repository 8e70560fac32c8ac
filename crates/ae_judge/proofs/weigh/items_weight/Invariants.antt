use Rattle.std.proofs.Common.{ℕ, List, ◌≡◌, map, take}
use Rattle.std.specs.Prelude.{min, sum_by}
use Rattle.ae_vmodule.specs.View.{item_tree}
use Rattle.ae_judge.specs.Weight.{item_weight}
use Rattle.ae_judge.proofs.weigh.items_weight.Given as goal

abbrev pub invariant-item : goal.invariant-item
invariant-item l = (ws : List (List ℕ)) → l.total ≡ min (sum_by item_weight (map (item_tree ws) (take l.item-index l.items))) 10000001
