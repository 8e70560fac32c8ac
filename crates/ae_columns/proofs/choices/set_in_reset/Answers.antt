use Rattle.std.proofs.Common.{arith}
use Rattle.ae_gates.specs.Cells.{IsConstant}
use Rattle.ae_gates.proofs.Adding.{adds_trans, grows_trans, net_added}
use Rattle.ae_netlist.proofs.Growing.{net_later}
use Rattle.ae_columns.proofs.Choosing.{from_grows}
use Rattle.ae_columns.proofs.Registered.{reset_columns}
use Rattle.ae_columns.proofs.choices.set_in_reset.Goals as goal

pub choose-requires-clause-condition : goal.choose-requires-clause-condition
choose-requires-clause-condition c = rw c.reset.ensures (net_later c.in_ok-fixed.ensures.adds.grows.extends c.requires.reset)

pub returns-clause-column : goal.returns-clause-column
returns-clause-column c =
    let g2 = grows_trans c.in_ok-next.ensures.adds.grows c.in_ok-y.ensures.adds.grows in
    let g1 = grows_trans c.in_ok-fixed.ensures.adds.grows g2 in
    reset_columns _ _ _ _ _ _ _ _ c.in_ok-fixed.fixed c.in_ok-next.next c.reset.result c.args.chosen _ c.reset.ensures g1.extends c.in_ok-y.ensures.net
    (from_grows _ (λ run. IsConstant run c.in_ok-fixed.fixed.0 c.args.word) g2.extends c.in_ok-fixed.ensures.words)
    (from_grows _ _ c.in_ok-y.ensures.adds.grows.extends c.in_ok-next.ensures.words)
    c.in_ok-y.ensures.words

pub returns-clause-adds : goal.returns-clause-adds
returns-clause-adds c = adds_trans (adds_trans c.in_ok-fixed.ensures.adds c.in_ok-next.ensures.adds) c.in_ok-y.ensures.adds

pub choose-requires-clause-right : goal.choose-requires-clause-right
choose-requires-clause-right c = net_added c.in_ok-fixed.ensures.adds c.requires.net

pub choose-requires-clause-room : goal.choose-requires-clause-room
choose-requires-clause-room c = omega (arith, c.requires.room, c.in_ok-fixed.ensures.adds.cells, c.in_ok-fixed.ensures.adds.grows.limit)

pub delayed-requires-clause-room : goal.delayed-requires-clause-room
delayed-requires-clause-room c =
    omega (
      arith,
      c.requires.room,
      c.in_ok-fixed.ensures.adds.cells,
      c.in_ok-fixed.ensures.adds.grows.limit,
      c.in_ok-next.ensures.adds.cells,
      c.in_ok-next.ensures.adds.grows.limit,
    )
