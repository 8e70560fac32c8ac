use Rattle.std.proofs.Common.{◌∙◌, sym, arith, rules}
use Rattle.table_circuits.proofs.There.{net_there}
use Rattle.table_circuits.proofs.nets.net.Goals as goal

pub returns : goal.returns
returns c =
    net_there c.args.nl.now.cells c.args.number c.args.width c.in-Some.sized (sym c.sized.ensures ∙ c.in-Some.is) (omega arith)
    (c.is_plain.ensures (search rules))
