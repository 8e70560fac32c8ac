use Rattle.std.proofs.Common.{arith}
use Rattle.ae_netlist.proofs.Growing.{net_later}
use Rattle.table_stages.proofs.Gaining.{gains_adds, gains_trans}
use Rattle.table_stages.proofs.cases.gated.Goals as goal

pub constant-requires-clause-room : goal.constant-requires-clause-room
constant-requires-clause-room c =
    let first = c.in_ok-bit.ensures.gains in
    let second = c.in_ok-word.ensures.gains in
    omega (arith, c.requires.room, first.cells, first.limit, second.cells, second.limit)

pub choose-requires-clause-condition : goal.choose-requires-clause-condition
choose-requires-clause-condition c =
    net_later c.in_ok-none.ensures.adds.grows.extends (net_later c.in_ok-word.ensures.gains.extends c.in_ok-bit.ensures.net)

pub choose-requires-clause-right : goal.choose-requires-clause-right
choose-requires-clause-right c = net_later c.in_ok-none.ensures.adds.grows.extends c.in_ok-word.ensures.net

pub choose-requires-clause-room : goal.choose-requires-clause-room
choose-requires-clause-room c =
    let first = c.in_ok-bit.ensures.gains in
    let second = c.in_ok-word.ensures.gains in
    let third = c.in_ok-none.ensures.adds in
    omega (arith, c.requires.room, first.cells, first.limit, second.cells, second.limit, third.cells, third.grows.limit)

pub returns-clause-gains : goal.returns-clause-gains
returns-clause-gains c =
    gains_trans (gains_trans (gains_trans c.in_ok-bit.ensures.gains c.in_ok-word.ensures.gains) (gains_adds c.in_ok-none.ensures.adds))
    (gains_adds c.in_ok-chosen.ensures.adds)
