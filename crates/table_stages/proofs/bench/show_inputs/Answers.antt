use Rattle.std.proofs.Common.{arith}
use Rattle.ae_netlist.proofs.Growing.{net_later}
use Rattle.table_stages.proofs.Evenness.{begins}
use Rattle.table_stages.proofs.bench.show_inputs.Goals as goal

pub show_late-requires-clause-belongs : goal.show_late-requires-clause-belongs
show_late-requires-clause-belongs c = begins _ _ _ c.new-clocks.ensures (net_later c.in_ok-bundle.ensures.gains.extends c.in_ok-rst.ensures.net)

pub show_late-requires-clause-room : goal.show_late-requires-clause-room
show_late-requires-clause-room c =
    let first = c.in_ok-rst.ensures.gains in
    let all = c.in_ok-bundle.ensures.gains in
    omega (arith, c.requires, first.cells, first.limit, all.cells, all.limit)
