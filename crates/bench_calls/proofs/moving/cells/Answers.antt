use Rattle.std.proofs.Common.{ap, arith, length}
use Rattle.ae_netlist.specs.Circuit.{Circuit}
use Rattle.ae_netlist.proofs.Growing.{net_later}
use Rattle.bench_calls.proofs.Lanes.{belongs_new, one_bundle}
use Rattle.bench_calls.proofs.Small.{few_cells}
use Rattle.ae_gather.specs.Gathers.{move_of}
use Rattle.bench_calls.proofs.moving.cells.Goals as goal

pub build-requires-clause-belongs : goal.build-requires-clause-belongs
build-requires-clause-belongs c =
    belongs_new c.new-counters.result c.inputs.new.nl.cells c.in_ok-rst.rst.0 c.new-counters.ensures
    (net_later c.inputs.ensures.extends c.in_ok-rst.ensures.net)

pub build-requires-clause-bundles : goal.build-requires-clause-bundles
build-requires-clause-bundles c = one_bundle _ (move_of c.args.stage.now).ins c.args.clocks _ c.requires.ins c.in_ok-inputs.ensures.nets

pub build-requires-clause-room : goal.build-requires-clause-room
build-requires-clause-room c =
    omega (
      arith,
      few_cells c.args.stage.now c.args.clocks c.requires.moves (omega (arith, c.latency.ensures)) c.requires.ins c.requires.out,
      c.inputs.ensures.cells,
      c.inputs.ensures.limit,
      c.input.ensures.cells,
      c.input.ensures.limit,
      ap (λ (n : Circuit). n.limit) c.new-nl.ensures,
      ap (λ (n : Circuit). length n.cells) c.new-nl.ensures,
    )
