use Rattle.std.proofs.Common.{◌∙◌, sym, arith}
use Rattle.table_circuits.proofs.There.{register_there}
use Rattle.table_circuits.proofs.nets.register.Goals as goal

pub returns : goal.returns
returns c =
    register_there c.args.nl.now.cells c.args.number c.args.width c.in-Some.sized.width c.in-Some.sized.cell _ (sym c.sized.ensures ∙ c.in-Some.is)
    (omega arith) c.in-Reg.is
