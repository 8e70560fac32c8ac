use Rattle.table_circuits.proofs.netlists.peek.Goals as goal

pub add-requires : goal.add-requires
add-requires c = record { depth = c.in-Some.m.1; memory = rw c.bits.ensures.is at c.in-Some.ensures; address = c.in-Some-address.ensures }
