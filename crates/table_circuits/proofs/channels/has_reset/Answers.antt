-- The first cell is looked at.
use Rattle.std.proofs.Common.{◌∙◌, sym, rules}
use Rattle.table_circuits.proofs.There.{reset_there}
use Rattle.table_circuits.proofs.channels.has_reset.Goals as goal

pub returns : goal.returns
returns c = λ wide. reset_there c.args.nl.now.cells _ _ _ (sym c.sized.ensures ∙ c.in-Some.is) (search rules) c.in-Input.is c.in-Reset.is
