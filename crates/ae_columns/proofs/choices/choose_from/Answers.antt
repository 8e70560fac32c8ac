-- A comparison of the counter, and the choice by it.
use Rattle.std.proofs.Common.{◌+◌, ◌≤◌, arith}
use Rattle.ae_gates.proofs.Adding.{adds_most, adds_trans}
use Rattle.ae_netlist.proofs.Growing.{net_later}
use Rattle.ae_columns.proofs.Choosing.{columns_then, ready_grows}
use Rattle.ae_columns.proofs.choices.choose_from.Goals as goal

both_room : 3 + 2 ≤ 11
both_room = omega arith

pub returns-clause-adds : goal.returns-clause-adds
returns-clause-adds c = adds_most 11 both_room (adds_trans c.in_ok-early.ensures.adds c.in_ok-y.ensures.adds)

pub choose_by-requires-clause-ready : goal.choose_by-requires-clause-ready
choose_by-requires-clause-ready c = ready_grows _ _ _ _ _ _ _ c.args.step.now.take c.in_ok-early.ensures.adds.grows.extends c.requires.ready

pub choose_by-requires-clause-before : goal.choose_by-requires-clause-before
choose_by-requires-clause-before c = net_later c.in_ok-early.ensures.adds.grows.extends c.requires.before

pub returns-clause-column : goal.returns-clause-column
returns-clause-column c =
    columns_then _ _ _ _ _ c.args.phase.net.0 c.args.phase.limit c.args.ins.now c.args.step.now c.args.before c.in_ok-early.early _
    c.in_ok-early.ensures.adds.grows.extends c.in_ok-early.ensures.marks c.in_ok-y.ensures.column

pub choose_by-requires-clause-room : goal.choose_by-requires-clause-room
choose_by-requires-clause-room c = omega (arith, c.requires.room, c.in_ok-early.ensures.adds.cells, c.in_ok-early.ensures.adds.grows.limit)
