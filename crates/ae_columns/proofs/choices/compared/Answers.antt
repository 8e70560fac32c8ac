use Rattle.std.proofs.Common.{◌≤◌, ◌^◌, ◌∙◌, arith}
use Rattle.ae_gates.specs.Cells.{IsConstant}
use Rattle.ae_gates.proofs.Added.{own_net}
use Rattle.ae_gates.proofs.Adding.{adds_trans}
use Rattle.ae_netlist.proofs.Growing.{net_later, net_width}
use Rattle.ae_columns.proofs.Choosing.{compared_marks, from_grows}
use Rattle.ae_columns.proofs.choices.compared.Goals as goal

pub returns-clause-adds : goal.returns-clause-adds
returns-clause-adds c = adds_trans c.in_ok-bound.ensures.adds c.in_ok-y.ensures.adds

pub width_at-width-requires : goal.width_at-width-requires
width_at-width-requires c = own_net c.requires.phase.counts.is_net

pub constant-requires-clause-fits : goal.constant-requires-clause-fits
constant-requires-clause-fits c =
    let width = c.width_at-width.ensures ∙ net_width c.requires.phase.counts.is_net in
    let enough : c.args.phase.period ≤ 2 ^ c.width_at-width.result = rw width c.requires.phase.counts.holds.enough in
    omega (arith, c.from.ensures)

pub less-requires-clause-left : goal.less-requires-clause-left
less-requires-clause-left c = net_later c.in_ok-bound.ensures.adds.grows.extends (rw c.width_at-width.ensures (own_net c.requires.phase.counts.is_net))

pub returns-clause-marks : goal.returns-clause-marks
returns-clause-marks c =
    compared_marks _ c.args.clocks.now.rst c.width_at-width.result c.args.phase.limit _ _ _ c.args.phase.net c.in_ok-bound.bound _
    (rw c.from.ensures at (from_grows _ (λ run. IsConstant run c.in_ok-bound.bound.0 c.from.result) c.in_ok-y.ensures.adds.grows.extends
    c.in_ok-bound.ensures.words))
    c.in_ok-y.ensures.words

pub less-requires-clause-room : goal.less-requires-clause-room
less-requires-clause-room c = omega (arith, c.requires.room, c.in_ok-bound.ensures.adds.cells, c.in_ok-bound.ensures.adds.grows.limit)
