use Rattle.ae_netlist.proofs.Growing.{net_later}
use Rattle.bench_calls.proofs.stepping.group.Goals as goal

pub choose-requires-clause-left : goal.choose-requires-clause-left
choose-requires-clause-left c = net_later c.in_ok-test.ensures.adds.grows.extends c.in_ok-total.ensures.net

pub choose-requires-clause-right : goal.choose-requires-clause-right
choose-requires-clause-right c =
    net_later c.in_ok-test.ensures.adds.grows.extends (net_later c.in_ok-total.ensures.adds.grows.extends c.requires.right)

pub returns-clause-left : goal.returns-clause-left
returns-clause-left c =
    net_later c.in_ok-chosen.ensures.adds.grows.extends (net_later c.in_ok-test.ensures.adds.grows.extends c.in_ok-total.ensures.net)
