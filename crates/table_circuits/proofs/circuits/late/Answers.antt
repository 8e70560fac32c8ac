use Rattle.ae_clocked.proofs.Connecting.{own_register, net_own}
use Rattle.table_circuits.proofs.circuits.late.Goals as goal

pub connect-requires-clause-register : goal.connect-requires-clause-register
connect-requires-clause-register c = own_register c.in-Some.ensures

pub connect-requires-clause-next : goal.connect-requires-clause-next
connect-requires-clause-next c = net_own c.in-Some.ensures c.in-Some-net.ensures
