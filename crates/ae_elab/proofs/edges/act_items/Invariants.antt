use Rattle.std.proofs.Common.{drop, map}
use Rattle.ae_vmodule.specs.View.{item_tree}
use Rattle.ae_elab.proofs.EdgeItems.{AreActing}
use Rattle.ae_elab.proofs.edges.act_items.Given as goal

abbrev pub invariant-loop-item : goal.invariant-loop-item
invariant-loop-item l =
    AreActing l.from l.names.nets l.nets l.fn.nl l.nl l.fn.nexts l.nexts (map (item_tree l.names.words) l.items)
    (drop l.item-index (map (item_tree l.names.words) l.items))
