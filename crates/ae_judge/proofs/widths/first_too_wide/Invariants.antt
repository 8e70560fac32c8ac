use Rattle.std.proofs.Common.{◌≡◌, ◌+◌, drop, map}
use Rattle.ae_vmodule.specs.View.{item_tree}
use Rattle.ae_judge.specs.Faults.{is_too_wide_in_item}
use Rattle.ae_judge.specs.Judging.{first_from}
use Rattle.ae_judge.proofs.widths.first_too_wide.Given as goal

abbrev pub invariant-item : goal.invariant-item
invariant-item l =
    (l.number ≡ l.item-index) × (first_from (λ _. is_too_wide_in_item l.names.nets) (l.number + 1) (map (item_tree l.names.words) (drop l.item-index l.items))
    ≡ first_from (λ _. is_too_wide_in_item l.names.nets) 1 (map (item_tree l.names.words) l.items))
