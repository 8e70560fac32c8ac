-- A module with its items in another order.
use Rattle.std.specs.Prelude.{List}
use Rattle.ae_vmodule.specs.ModuleTree.{ItemTree, ModuleTree}

abbrev pub reordered : ModuleTree → List ItemTree → ModuleTree
reordered m items = record { name = m.name; nets = m.nets; items = items }
