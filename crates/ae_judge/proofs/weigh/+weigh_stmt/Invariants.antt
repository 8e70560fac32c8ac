use Rattle.std.proofs.Common.{ℕ, List, ◌≡◌, ◌≤◌, ◌+◌}
use Rattle.std.specs.Prelude.{min}
use Rattle.ae_vmodule.specs.Numbered.{parts_in_stmt}
use Rattle.ae_vmodule.specs.Roots.{numbered_stmt}
use Rattle.ae_vmodule.specs.View.{stmt_tree}
use Rattle.ae_judge.specs.Weight.{stmt_weight}
use Rattle.ae_judge.proofs.weigh.+weigh_stmt.Given as goal

abbrev pub decreases-stmt_weight : goal.decreases-stmt_weight
decreases-stmt_weight l = parts_in_stmt (numbered_stmt l.whole)

-- what is left makes it whole
abbrev pub invariant-stmt : goal.invariant-stmt
invariant-stmt l =
    ((ws : List (List ℕ)) → min (l.total + stmt_weight l.ifs (stmt_tree ws (numbered_stmt l.stmt))) 10000001
    ≡ min (stmt_weight l.ifs (stmt_tree ws (numbered_stmt l.fn.whole))) 10000001)
    × (l.total ≤ 10000001) × (parts_in_stmt (numbered_stmt l.stmt) ≤ parts_in_stmt (numbered_stmt l.fn.whole))

abbrev pub decreases-stmt : goal.decreases-stmt
decreases-stmt l = parts_in_stmt (numbered_stmt l.stmt)
