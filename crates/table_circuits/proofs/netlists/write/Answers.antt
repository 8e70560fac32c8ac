use Rattle.table_circuits.proofs.There.{own_memory, written_there}
use Rattle.table_circuits.proofs.netlists.write.Goals as goal

pub connect_memory-requires-clause-memory : goal.connect_memory-requires-clause-memory
connect_memory-requires-clause-memory c = own_memory c.in-Some.ensures

pub connect_memory-requires-clause-written : goal.connect_memory-requires-clause-written
connect_memory-requires-clause-written c = written_there c.in-Some.ensures c.in-Some-address.ensures c.in-Some-net.ensures c.in-Some-net-2.ensures
