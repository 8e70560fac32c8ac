use Rattle.std.proofs.Common.{◌≡◌, drop, map}
use Rattle.std.specs.List.{list_any}
use Rattle.ae_vmodule.specs.View.{drive_tree}
use Rattle.ae_judge.specs.Faults.{is_too_wide_in_drive}
use Rattle.ae_judge.proofs.widths.any_too_wide_drive.Given as goal

abbrev pub invariant-drive : goal.invariant-drive
invariant-drive l =
    list_any (is_too_wide_in_drive l.names.nets) (map (drive_tree l.names.words) (drop l.drive-index l.drives))
    ≡ list_any (is_too_wide_in_drive l.names.nets) (map (drive_tree l.names.words) l.drives)
