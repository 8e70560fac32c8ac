use Rattle.std.proofs.Common.{◌≡◌, drop, map}
use Rattle.std.specs.List.{list_any}
use Rattle.ae_vmodule.specs.View.{drive_tree}
use Rattle.ae_judge.specs.Judging.{is_late}
use Rattle.ae_judge.proofs.unknown.any_late.Given as goal

abbrev pub invariant-drive : goal.invariant-drive
invariant-drive l =
    list_any (is_late l.names.nets l.number) (map (drive_tree l.names.words) (drop l.drive-index l.drives))
    ≡ list_any (is_late l.names.nets l.number) (map (drive_tree l.names.words) l.drives)
