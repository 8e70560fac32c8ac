use Rattle.ae_gates.proofs.Added.{own_net}
use Rattle.table_circuits.proofs.circuits.show.Goals as goal

pub add_output-requires-clause-net : goal.add_output-requires-clause-net
add_output-requires-clause-net c = own_net c.in-Some.ensures
