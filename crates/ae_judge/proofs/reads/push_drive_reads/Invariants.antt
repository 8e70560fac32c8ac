use Rattle.std.proofs.Common.{ℕ, List, ◌≡◌, ◌++◌, flat_map, map, take}
use Rattle.ae_vmodule.specs.View.{drive_tree, word_at}
use Rattle.ae_judge.specs.Names.{drive_reads}
use Rattle.ae_judge.proofs.reads.push_drive_reads.Given as goal

-- the names of the drives so far
abbrev pub invariant-drive : goal.invariant-drive
invariant-drive l =
    (ws : List (List ℕ)) → map (word_at ws) l.into.items ≡ map (word_at ws) l.fn.into.items
    ++ flat_map drive_reads (map (drive_tree ws) (take l.drive-index l.drives))
