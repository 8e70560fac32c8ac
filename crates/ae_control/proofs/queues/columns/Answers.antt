-- One queue more in each turn.
use Rattle.std.proofs.Common.{◌≡◌, length, arith}
use Rattle.ae_netlist.proofs.Growing.{net_later}
use Rattle.ae_control.specs.Controls.{net}
use Rattle.ae_control.proofs.Cells.{found_at}
use Rattle.ae_control.proofs.Queued.{all_columns, some_more, some_none}
use Rattle.ae_control.proofs.queues.columns.Goals as goal
use Rattle.ae_gates.proofs.Added.{own_net as own_width}

pub loop-k-init : goal.loop-k-init
loop-k-init c = some_none c.args.nl.now c.args.c c.args.made.now

pub column-requires-clause-net : goal.column-requires-clause-net
column-requires-clause-net c =
    own_width (net_later c.loop-k.invariant.longer.extends (c.requires.nets c.loop-k.k _ (found_at c.args.made.now c.loop-k.k (net 0) c.loop-k-test.true)))

pub loop-k-preserved : goal.loop-k-preserved
loop-k-preserved c =
    some_more c.args.nl.now c.loop-k.nl c.column.new.nl c.args.c c.args.made.now c.loop-k.k _ c.loop-k.invariant
    (found_at c.args.made.now c.loop-k.k (net 0) c.loop-k-test.true) c.in_ok-column.ensures.longer c.in_ok-column.ensures.long c.in_ok-column.ensures.column

pub returns-clause-columns : goal.returns-clause-columns
returns-clause-columns c =
    let end : c.loop-k.k ≡ length c.args.made.now = omega (arith, c.loop-k-test.false, c.loop-k.auto.k-end) in
    all_columns c.args.nl.now c.loop-k.nl c.args.c c.args.made.now (rw end at c.loop-k.invariant)

pub returns-clause-long : goal.returns-clause-long
returns-clause-long c =
    let end : c.loop-k.k ≡ length c.args.made.now = omega (arith, c.loop-k-test.false, c.loop-k.auto.k-end) in
    omega (arith, c.loop-k.invariant.long, end)

pub column-requires-clause-room : goal.column-requires-clause-room
column-requires-clause-room c = omega (arith, c.requires.room, c.loop-k.invariant.long, c.loop-k.invariant.longer.limit, c.loop-k-test.true)
