use Rattle.std.proofs.Common.{ℕ, List, ◌≡◌, map, take}
use Rattle.std.specs.Prelude.{min, sum_by}
use Rattle.ae_vmodule.specs.View.{drive_tree}
use Rattle.ae_judge.specs.Weight.{drive_weight}
use Rattle.ae_judge.proofs.weigh.drives_weight.Given as goal

abbrev pub invariant-drive : goal.invariant-drive
invariant-drive l = (ws : List (List ℕ)) → l.total ≡ min (sum_by drive_weight (map (drive_tree ws) (take l.drive-index l.drives))) 10000001
