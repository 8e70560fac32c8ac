use Rattle.std.proofs.Common.{ℕ, List, ◌≡◌, ◌++◌, map, take}
use Rattle.ae_vmodule.specs.View.{drive_tree, word_at}
use Rattle.ae_judge.specs.Names.{target_of}
use Rattle.ae_judge.proofs.reads.push_drive_targets.Given as goal

-- the names of the drives so far
abbrev pub invariant-drive : goal.invariant-drive
invariant-drive l =
    (ws : List (List ℕ)) → map (word_at ws) l.into.items ≡ map (word_at ws) l.fn.into.items ++ map target_of (map (drive_tree ws) (take l.drive-index l.drives))
