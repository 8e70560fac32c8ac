use Rattle.std.proofs.Common.{arith}
use Rattle.ae_gates.specs.Cells.{IsConstant}
use Rattle.ae_gates.proofs.Added.{own_net}
use Rattle.ae_gates.proofs.Adding.{adds_trans, grows_trans}
use Rattle.ae_netlist.proofs.Growing.{net_later}
use Rattle.ae_columns.proofs.Choosing.{from_grows, low_marks}
use Rattle.ae_columns.proofs.choices.compared_low.Goals as goal

pub returns-clause-adds : goal.returns-clause-adds
returns-clause-adds c = adds_trans (adds_trans c.in_ok-shown.ensures.adds c.in_ok-bound.ensures.adds) c.in_ok-y.ensures.adds

pub width_at-width-requires : goal.width_at-width-requires
width_at-width-requires c = own_net c.requires.phase.counts.is_net

pub low_bits-requires-clause-net : goal.low_bits-requires-clause-net
low_bits-requires-clause-net c = rw c.width_at-width.ensures (own_net c.requires.phase.counts.is_net)

pub constant-requires-clause-fits : goal.constant-requires-clause-fits
constant-requires-clause-fits c = omega (arith, c.from.ensures, c.requires.within, c.requires.enough)

pub less-requires-clause-left : goal.less-requires-clause-left
less-requires-clause-left c = net_later c.in_ok-bound.ensures.adds.grows.extends c.in_ok-shown.ensures.net

pub returns-clause-marks : goal.returns-clause-marks
returns-clause-marks c =
    let g2 = grows_trans c.in_ok-bound.ensures.adds.grows c.in_ok-y.ensures.adds.grows in
    low_marks _ c.args.clocks.now.rst c.args.bits c.width_at-width.result c.args.phase.limit _ _ _ _ c.args.phase.net c.in_ok-shown.shown c.in_ok-bound.bound _
    c.requires.enough
    (rw c.from.ensures at (from_grows _ (λ run. IsConstant run c.in_ok-bound.bound.0 c.from.result) c.in_ok-y.ensures.adds.grows.extends
    c.in_ok-bound.ensures.words))
    (from_grows _ _ g2.extends c.in_ok-shown.ensures.words)
    c.in_ok-y.ensures.words

pub constant-requires-clause-room : goal.constant-requires-clause-room
constant-requires-clause-room c = omega (arith, c.requires.room, c.in_ok-shown.ensures.adds.cells, c.in_ok-shown.ensures.adds.grows.limit)

pub less-requires-clause-room : goal.less-requires-clause-room
less-requires-clause-room c =
    omega (
      arith,
      c.requires.room,
      c.in_ok-shown.ensures.adds.cells,
      c.in_ok-shown.ensures.adds.grows.limit,
      c.in_ok-bound.ensures.adds.cells,
      c.in_ok-bound.ensures.adds.grows.limit,
    )
