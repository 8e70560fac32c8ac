use Rattle.std.proofs.Common.{◌≡◌, ◌+◌, drop, map}
use Rattle.ae_vmodule.specs.View.{item_tree}
use Rattle.ae_judge.specs.Judging.{first_from, uses_unknown}
use Rattle.ae_judge.proofs.unknown.first_unknown.Given as goal

abbrev pub invariant-item : goal.invariant-item
invariant-item l =
    (l.number ≡ l.item-index) × (first_from (uses_unknown l.names.nets) (l.number + 1) (map (item_tree l.names.words) (drop l.item-index l.items))
    ≡ first_from (uses_unknown l.names.nets) 1 (map (item_tree l.names.words) l.items))
