use Rattle.std.proofs.Common.{◌+◌, ◌*◌}
use Rattle.ae_vmodule.specs.Numbered.{parts_in_stmt}
use Rattle.ae_vmodule.specs.Roots.{numbered_stmt}
use Rattle.table_modules.proofs.trees.+stmts.Given as goal

abbrev pub decreases-push_stmt : goal.decreases-push_stmt
decreases-push_stmt l = 2 * parts_in_stmt (numbered_stmt l.s)

abbrev pub decreases-push_stmts : goal.decreases-push_stmts
decreases-push_stmts l = 2 * parts_in_stmt (numbered_stmt l.s) + 1
