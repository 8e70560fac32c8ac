use Rattle.std.proofs.Common.{ℕ, List, ◌≡◌, ◌≤◌, ◌++◌, map}
use Rattle.ae_vmodule.specs.Numbered.{parts_in_stmt}
use Rattle.ae_vmodule.specs.Roots.{numbered_stmt}
use Rattle.ae_vmodule.specs.View.{stmt_tree, word_at}
use Rattle.ae_judge.specs.Names.{stmt_targets}
use Rattle.ae_judge.proofs.reads.+stmt_targets.Given as goal

abbrev pub decreases-push_stmt_targets : goal.decreases-push_stmt_targets
decreases-push_stmt_targets l = parts_in_stmt (numbered_stmt l.whole)

-- what is left are the names of what is left
abbrev pub invariant-stmt : goal.invariant-stmt
invariant-stmt l =
    ((ws : List (List ℕ)) → map (word_at ws) l.into.items ++ stmt_targets (stmt_tree ws (numbered_stmt l.stmt))
    ≡ map (word_at ws) l.fn.into.items ++ stmt_targets (stmt_tree ws (numbered_stmt l.fn.whole)))
    × (parts_in_stmt (numbered_stmt l.stmt) ≤ parts_in_stmt (numbered_stmt l.fn.whole))

abbrev pub decreases-stmt : goal.decreases-stmt
decreases-stmt l = parts_in_stmt (numbered_stmt l.stmt)
