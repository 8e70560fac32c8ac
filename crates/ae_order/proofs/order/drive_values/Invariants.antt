use Rattle.std.proofs.Common.{◌≡◌, length, map, take, replicate, None}
use Rattle.std.specs.Prelude.{flat_map}
use Rattle.ae_vmodule.specs.View.{item_tree}
use Rattle.ae_judge.specs.Names.{drives_of}
use Rattle.ae_order.specs.Drives.{noted}
use Rattle.ae_order.specs.Drives.{value_tree}
use Rattle.ae_order.proofs.order.drive_values.Given as goal

abbrev pub invariant-item : goal.invariant-item
invariant-item l = record {
  long : length l.values ≡ length l.names.nets;
  noted : map (value_tree l.names.words) l.values ≡ noted l.names.nets (replicate (length l.names.nets) None)
      (flat_map drives_of (take l.item-index (map (item_tree l.names.words) l.m.items.items)));
}
