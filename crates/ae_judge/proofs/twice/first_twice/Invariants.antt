use Rattle.std.proofs.Common.{◌≡◌, ◌+◌, flat_map, drop, map}
use Rattle.ae_vmodule.specs.View.{item_tree}
use Rattle.ae_judge.specs.Names.{item_targets}
use Rattle.ae_judge.specs.Judging.{first_twice, with_names}
use Rattle.ae_judge.proofs.twice.first_twice.Given as goal

abbrev pub invariant-item : goal.invariant-item
invariant-item l =
    let trees = map (item_tree l.initial.driven.table.words) in
    let ns = l.initial.driven.table.nets in
    record {
      number : l.number ≡ l.item-index;
      table : l.driven.table ≡ l.initial.driven.table;
      first : first_twice ns (l.number + 1) l.driven.entries (trees (drop l.item-index l.items)) ≡ first_twice ns 1 l.initial.driven.entries (trees l.items);
      driven : with_names l.driven.entries (flat_map item_targets (trees (drop l.item-index l.items))) ≡ with_names l.initial.driven.entries
          (flat_map item_targets (trees l.items));
    }
