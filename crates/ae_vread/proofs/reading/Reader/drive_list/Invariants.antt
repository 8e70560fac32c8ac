use Rattle.std.proofs.Common.{◌≡◌, ◌+◌, ◌-◌, ◌≤◌, length}
use Rattle.ae_vtoken.specs.Ahead.{ahead}
use Rattle.ae_vmodule.specs.Held.{held}
use Rattle.ae_vmodule.specs.View.{drive_tree}
use Rattle.ae_vmodule.specs.ModuleTree.{DriveTree}
use Rattle.ae_vread.specs.ItemReading.{Entries, entries, drive_list, one_drive, with_comma}
use Rattle.ae_vread.specs.ReadExpr.{used}
use Rattle.ae_vread.specs.ReadList.{Added}
use Rattle.ae_vread.proofs.reading.Reader.drive_list.Given as goal

-- what is left to do is what there was to do
abbrev pub invariant-next : goal.invariant-next
invariant-next l =
    (e : Entries DriveTree) × Added drive_tree l.fn.drives.items l.drives.items l.fn.self.words l.self e
    × (drive_list (ahead l.fn.self.tokens) ≡ entries (with_comma one_drive) (length (ahead l.fn.self.tokens) - l.turn) e.0 e.1)
    × (used l.self + 1 ≤ used l.fn.self) × (held l.self.stack ≡ held l.fn.self.stack)
