use Rattle.std.proofs.Common.{arith}
use Rattle.ae_netlist.proofs.Growing.{net_later}
use Rattle.table_stages.proofs.Evenness.{begins, lanes_bundle}
use Rattle.table_stages.proofs.bench.run_lanes.Goals as goal

pub run-requires-clause-bundles : goal.run-requires-clause-bundles
run-requires-clause-bundles g c = lanes_bundle _ (g.S.Stage.part c.args.stage.now) c.args.lanes c.args.width _ c.requires.takes c.in_ok-inputs.ensures.nets

pub run-requires-clause-belongs : goal.run-requires-clause-belongs
run-requires-clause-belongs g c = begins _ _ _ c.new-clocks.ensures (net_later c.in_ok-inputs.ensures.gains.extends c.in_ok-rst.ensures.net)

pub run-requires-clause-room : goal.run-requires-clause-room
run-requires-clause-room g c =
    let first = c.in_ok-rst.ensures.gains in
    let all = c.in_ok-inputs.ensures.gains in
    omega (arith, c.requires.room, first.cells, first.limit, all.cells, all.limit)
