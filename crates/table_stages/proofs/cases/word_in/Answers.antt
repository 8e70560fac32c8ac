use Rattle.std.proofs.Common.{arith}
use Rattle.ae_netlist.proofs.Growing.{net_later}
use Rattle.table_stages.proofs.Evenness.{begins}
use Rattle.table_stages.proofs.cases.word_in.Goals as goal

pub of_operands-requires-clause-belongs : goal.of_operands-requires-clause-belongs
of_operands-requires-clause-belongs c = begins _ _ _ c.new-clocks.ensures (net_later c.in_ok-pair.ensures.gains.extends c.in_ok-rst.ensures.net)

pub operands-requires : goal.operands-requires
operands-requires c = omega (arith, c.requires.room, c.in_ok-rst.ensures.gains.cells, c.in_ok-rst.ensures.gains.limit)

pub of_operands-requires-clause-room : goal.of_operands-requires-clause-room
of_operands-requires-clause-room c =
    let first = c.in_ok-rst.ensures.gains in
    let pair = c.in_ok-pair.ensures.gains in
    omega (arith, c.requires.room, first.cells, first.limit, pair.cells, pair.limit)
