use Rattle.std.proofs.Common.{◌∙◌, sym, arith}
use Rattle.table_circuits.proofs.There.{memory_there}
use Rattle.table_circuits.proofs.nets.memory.Goals as goal

pub returns : goal.returns
returns c =
    memory_there c.args.nl.now.cells c.args.number c.args.width c.in-Mem.depth c.in-Some.sized.width c.in-Some.sized.cell _ _ _
    (sym c.sized.ensures ∙ c.in-Some.is) (omega arith) c.in-Mem.is
