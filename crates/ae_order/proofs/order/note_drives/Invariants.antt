use Rattle.std.proofs.Common.{◌≡◌, length, map, take}
use Rattle.ae_vmodule.specs.View.{drive_tree}
use Rattle.ae_order.specs.Drives.{noted}
use Rattle.ae_order.specs.Drives.{value_tree}
use Rattle.ae_order.proofs.order.note_drives.Given as goal

abbrev pub invariant-drive : goal.invariant-drive
invariant-drive l = record {
  long : length l.values ≡ length l.names.nets;
  noted : map (value_tree l.names.words) l.values ≡ noted l.names.nets (map (value_tree l.names.words) l.fn.values)
      (take l.drive-index (map (drive_tree l.names.words) l.drives));
}
