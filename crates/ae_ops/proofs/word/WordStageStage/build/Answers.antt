-- The operator's cells, and the line behind them.
use Rattle.std.proofs.Common.{◌-◌, ◌∙◌, arith, refl}
use Rattle.ae_netlist.proofs.Growing.{extends_trans, net_width}
use Rattle.ae_gates.proofs.Added.{own_net}
use Rattle.ae_gates.proofs.Adding.{grows_trans}
use Rattle.ae_clocked.proofs.Belonging.{belongs_grows}
use Rattle.ae_ops.specs.Words.{operands_of}
use Rattle.ae_ops.proofs.Lateness.{line_one}
use Rattle.ae_ops.proofs.WordBlocks.{bundles_grow, computed, operands_ready, some_nets, word_answers, word_nets}
use Rattle.ae_ops.proofs.word.WordStageStage.build.Goals as goal

pub operands-args-requires-clause-nets : goal.operands-args-requires-clause-nets
operands-args-requires-clause-nets c = some_nets _ _ c.args.ins.now c.requires.bundles

pub make-requires-clause-operands : goal.make-requires-clause-operands
make-requires-clause-operands c =
    rw c.operands-args.ensures (operands_ready _ c.self.inside.op c.self.inside.width c.args.ins.now (rw (← c.self.view_is) at c.requires.bundles))

pub line-requires-clause-belongs : goal.line-requires-clause-belongs
line-requires-clause-belongs c = belongs_grows _ _ _ c.in_ok-made.ensures.adds.grows c.requires.belongs

pub line-requires-clause-net : goal.line-requires-clause-net
line-requires-clause-net c = own_net c.in_ok-made.ensures.net

pub returns-clause-grows : goal.returns-clause-grows
returns-clause-grows c = grows_trans c.in_ok-made.ensures.adds.grows c.in_ok-tapped.ensures.grows

pub returns-clause-cells : goal.returns-clause-cells
returns-clause-cells c =
    let behind = c.latency.result - c.in_ok-made.made.late in
    rw (← c.self.view_is) (omega (arith, c.in_ok-made.ensures.adds.cells, c.in_ok-tapped.ensures.cells, line_one behind, c.latency.ensures))

pub returns-clause-muls : goal.returns-clause-muls
returns-clause-muls c = (rw (← c.self.view_is) (c.in_ok-tapped.ensures.muls ∙ c.in_ok-made.ensures.adds.muls))

pub returns-clause-whole : goal.returns-clause-whole
returns-clause-whole c = (λ h. c.in_ok-tapped.ensures.whole (c.in_ok-made.ensures.adds.whole h))

pub returns-clause-memories : goal.returns-clause-memories
returns-clause-memories c = (omega (arith, c.in_ok-tapped.ensures.memories, c.in_ok-made.ensures.adds.memories))

pub returns-clause-bundle : goal.returns-clause-bundle
returns-clause-bundle c =
    let tap = c.in_ok-tapped.ensures.taps.each 0 (c.latency.result - c.in_ok-made.made.late) c.tap.result refl c.tap.ensures in
    rw (← c.self.view_is) (word_nets _ _ c.tap.result c.in_ok-out.out c.in_ok-out.ensures.ok (rw (net_width c.in_ok-made.ensures.net) at tap.net))

pub returns-clause-law : goal.returns-clause-law
returns-clause-law c =
    let later = extends_trans c.in_ok-made.ensures.adds.grows.extends c.in_ok-tapped.ensures.grows.extends in
    let tap = rw c.latency.ensures at (c.in_ok-tapped.ensures.taps.each 0 (c.latency.result - c.in_ok-made.made.late) c.tap.result refl c.tap.ensures) in
    rw (← c.self.view_is)
    (word_answers _ _ _ c.self.inside.width c.self.inside.period c.self.inside.op c.args.ins.now c.tap.result c.in_ok-out.out c.in_ok-out.ensures.ok
    c.self.invariant.1 (bundles_grow _ _ _ _ later (rw (← c.self.view_is) at c.requires.bundles))
    (computed c.make.new.nl c.line.new.nl _ _ _ _ c.in_ok-made.made.late _ (operands_of c.self.inside.op c.args.ins.now) c.in_ok-made.made.net c.tap.result
    c.in_ok-made.ensures.late c.in_ok-tapped.ensures.grows (rw c.operands-args.ensures at c.in_ok-made.ensures.words) tap))

pub make-requires-clause-room : goal.make-requires-clause-room
make-requires-clause-room c = let room = rw (← c.self.view_is) at c.requires.room in omega (arith, room)

pub line-requires-clause-room : goal.line-requires-clause-room
line-requires-clause-room c =
    let behind = c.latency.result - c.in_ok-made.made.late in
    let room = rw (← c.self.view_is) at c.requires.room in
    omega (arith, room, c.in_ok-made.ensures.adds.cells, c.in_ok-made.ensures.adds.grows.limit, line_one behind, c.latency.ensures)
