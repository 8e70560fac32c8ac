use Rattle.std.proofs.Common.{◌≡◌, drop, map}
use Rattle.ae_vmodule.specs.View.{item_tree}
use Rattle.ae_judge.specs.Names.{first_clock}
use Rattle.ae_judge.proofs.kinds.first_clock.Given as goal

abbrev pub invariant-item : goal.invariant-item
invariant-item l = first_clock (map (item_tree l.names.words) (drop l.item-index l.items)) ≡ first_clock (map (item_tree l.names.words) l.items)
