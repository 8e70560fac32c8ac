use Rattle.std.proofs.Common.{◌≡◌, ◌≤◌, ◌+◌}
use Rattle.ae_vmodule.specs.Numbered.{parts_in_stmt}
use Rattle.ae_vmodule.specs.Roots.{numbered_stmt}
use Rattle.ae_vmodule.specs.View.{stmt_tree}
use Rattle.ae_judge.specs.Faults.{is_too_wide_in_stmt}
use Rattle.ae_judge.proofs.widths.+wide_stmt.Given as goal

abbrev pub decreases-is_too_wide_in_stmt : goal.decreases-is_too_wide_in_stmt
decreases-is_too_wide_in_stmt l = parts_in_stmt (numbered_stmt l.whole)

-- what is left decides
abbrev pub invariant-stmt : goal.invariant-stmt
invariant-stmt l =
    (is_too_wide_in_stmt l.names.nets (stmt_tree l.names.words (numbered_stmt l.fn.whole)) ≡ is_too_wide_in_stmt l.names.nets
    (stmt_tree l.names.words (numbered_stmt l.stmt)))
    × (parts_in_stmt (numbered_stmt l.stmt) ≤ parts_in_stmt (numbered_stmt l.fn.whole))

abbrev pub decreases-stmt : goal.decreases-stmt
decreases-stmt l = parts_in_stmt (numbered_stmt l.stmt)
