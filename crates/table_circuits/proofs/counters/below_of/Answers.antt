use Rattle.ae_gates.proofs.Adding.{grows_trans, net_added}
use Rattle.table_circuits.proofs.counters.below_of.Goals as goal

pub less-requires-clause-left : goal.less-requires-clause-left
less-requires-clause-left c = net_added c.in_ok-b.ensures.adds c.requires.left

pub returns : goal.returns
returns c = grows_trans c.in_ok-b.ensures.adds.grows c.in_ok-y.ensures.adds.grows
