use Rattle.std.proofs.Common.{◌≡◌, drop, map}
use Rattle.ae_vmodule.specs.View.{drive_tree}
use Rattle.ae_judge.specs.Judging.{drives_unknown}
use Rattle.ae_judge.proofs.unknown.any_ungiven.Given as goal

abbrev pub invariant-drive : goal.invariant-drive
invariant-drive l =
    drives_unknown l.names.nets l.number l.given (map (drive_tree l.names.words) (drop l.drive-index l.drives))
    ≡ drives_unknown l.names.nets l.number l.fn.given (map (drive_tree l.names.words) l.drives)
