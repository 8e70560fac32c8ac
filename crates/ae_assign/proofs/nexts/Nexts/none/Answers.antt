use Rattle.std.proofs.Common.{map, ap, ◌∙◌}
use Rattle.ae_assign.specs.Assigned.{next_of}
use Rattle.ae_order.proofs.SparseLaws.{map_none}
use Rattle.ae_assign.proofs.nexts.Nexts.none.Goals as goal

pub returns : goal.returns
returns c = ap (map next_of) c.none.ensures ∙ map_none next_of c.args.count
