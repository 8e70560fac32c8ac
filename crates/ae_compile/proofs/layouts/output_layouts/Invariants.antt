use Rattle.std.proofs.Common.{◌≡◌, ◌++◌, map, drop}
use Rattle.ae_sttype.specs.StTree.{st_tree}
use Rattle.ae_rewrite.specs.StProgramTree.{st_func_tree}
use Rattle.ae_rewrite.specs.Sound.{item_layout, item_layouts}
use Rattle.ae_compile.proofs.layouts.output_layouts.Given as goal

abbrev pub invariant-loop-item : goal.invariant-loop-item
invariant-loop-item l =
    map st_tree l.layouts.items ++ map (item_layout (item_layouts (st_func_tree l.s))) (drop l.item-index l.item-items) ≡ map
    (item_layout (item_layouts (st_func_tree l.s))) l.item-items
