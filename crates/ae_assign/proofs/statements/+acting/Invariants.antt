use Rattle.std.proofs.Common.{◌≤◌, ◌+◌, ◌*◌}
use Rattle.ae_vmodule.specs.ModuleTree.{block_more}
use Rattle.ae_vmodule.specs.Numbered.{parts_in_stmt}
use Rattle.ae_vmodule.specs.Roots.{numbered_stmt}
use Rattle.ae_vmodule.specs.View.{stmt_tree}
use Rattle.ae_assign.proofs.EdgeBlocks.{IsActing}
use Rattle.ae_assign.proofs.statements.+acting.Given as goal

abbrev pub decreases-act : goal.decreases-act
decreases-act l = 2 * parts_in_stmt (numbered_stmt l.stmt)

abbrev pub decreases-act_all : goal.decreases-act_all
decreases-act_all l = 2 * (parts_in_stmt (numbered_stmt l.first) + parts_in_stmt (numbered_stmt l.rest)) + 1

-- what was done so far, and then what is left
abbrev pub invariant-act_all-next : goal.invariant-act_all-next
invariant-act_all-next l =
    let tree = stmt_tree l.names.words in
    IsActing l.from l.names.nets l.nets l.guard l.fn.nl l.nl l.fn.nexts l.nexts
    (block_more (tree (numbered_stmt l.fn.first)) (tree (numbered_stmt l.fn.rest))) (tree (numbered_stmt l.left))
    × (parts_in_stmt (numbered_stmt l.left) ≤ parts_in_stmt (numbered_stmt l.fn.rest))

abbrev pub decreases-act_all-next : goal.decreases-act_all-next
decreases-act_all-next l = parts_in_stmt (numbered_stmt l.left)
