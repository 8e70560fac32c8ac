use Rattle.std.proofs.Common.{◌+◌, ◌*◌}
use Rattle.ae_vmodule.specs.Numbered.{parts_in}
use Rattle.ae_vmodule.specs.Roots.{numbered}
use Rattle.table_modules.proofs.trees.+exprs.Given as goal

abbrev pub decreases-push_expr : goal.decreases-push_expr
decreases-push_expr l = 2 * parts_in (numbered l.e)

abbrev pub decreases-push_parts : goal.decreases-push_parts
decreases-push_parts l = 2 * parts_in (numbered l.parts) + 1
