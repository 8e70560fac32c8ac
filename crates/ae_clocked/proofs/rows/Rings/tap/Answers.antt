-- From the rings of the net, from rings that are made now, or from registers.
use Rattle.std.proofs.Common.{◌*◌, arith, refl}
use Rattle.ae_netlist.proofs.Growing.{net_later, net_width}
use Rattle.ae_clocked.proofs.Belonging.{belongs_grows, keeps_same}
use Rattle.ae_clocked.proofs.Keeping.{read_tap, rings_grow, rings_most, rings_same, rings_trans}
use Rattle.ae_clocked.proofs.rows.Rings.tap.Goals as goal

pub read-requires-clause-late : goal.read-requires-clause-late
read-requires-clause-late c = omega (arith, c.if-delay-ge8.true)

pub read-requires-clause-holds : goal.read-requires-clause-holds
read-requires-clause-holds c = (c.args.clocks.now.rst, c.requires.rows)

pub read-requires-clause-there : goal.read-requires-clause-there
read-requires-clause-there c = c.reaches.ensures c.if-reaches.true

pub returns-then-reaches-clause-belongs : goal.returns-then-reaches-clause-belongs
returns-then-reaches-clause-belongs c = belongs_grows _ _ _ c.in_ok-y.ensures.adds.grows c.requires.belongs

pub returns-then-reaches-clause-keeps : goal.returns-then-reaches-clause-keeps
returns-then-reaches-clause-keeps c = keeps_same _

pub returns-then-reaches-clause-rows : goal.returns-then-reaches-clause-rows
returns-then-reaches-clause-rows c = (rings_grow c.in_ok-y.ensures.adds.grows.extends c.requires.rows)

pub returns-then-reaches-clause-adds : goal.returns-then-reaches-clause-adds
returns-then-reaches-clause-adds c =
    rings_most (16 * c.args.delay) (omega (arith, c.if-delay-ge8.true)) (rings_same c.args.self.now.left c.in_ok-y.ensures.adds)

pub returns-then-reaches-clause-tap : goal.returns-then-reaches-clause-tap
returns-then-reaches-clause-tap c = read_tap c.in_ok-y.y c.args.self.now c.args.clocks.now.rst _ _ _ _ _ _ refl c.requires.rows c.in_ok-y.ensures.tap

pub make-requires-clause-late : goal.make-requires-clause-late
make-requires-clause-late c = omega (arith, c.if-delay-ge8-2.true, (c.allows.ensures c.if-allows.true).0)

pub make-requires-clause-left : goal.make-requires-clause-left
make-requires-clause-left c = (c.allows.ensures c.if-allows.true).1

pub read-requires-then-allows-clause-late : goal.read-requires-then-allows-clause-late
read-requires-then-allows-clause-late c = omega (arith, c.if-delay-ge8-2.true)

pub read-requires-then-allows-clause-holds : goal.read-requires-then-allows-clause-holds
read-requires-then-allows-clause-holds c = (c.args.clocks.now.rst, c.in_ok-make.ensures.rows)

pub read-requires-then-allows-clause-there : goal.read-requires-then-allows-clause-there
read-requires-then-allows-clause-there c =
    let made = c.in_ok-make.ensures.made in
    let l = (c.allows.ensures c.if-allows.true).0 in
    (made.0, made.1, omega (arith, made.2, l))

pub returns-then-allows-clause-belongs : goal.returns-then-allows-clause-belongs
returns-then-allows-clause-belongs c = belongs_grows _ _ _ c.in_ok-y-2.ensures.adds.grows c.in_ok-make.ensures.belongs

pub returns-then-allows-clause-rows : goal.returns-then-allows-clause-rows
returns-then-allows-clause-rows c = (rings_grow c.in_ok-y-2.ensures.adds.grows.extends c.in_ok-make.ensures.rows)

pub returns-then-allows-clause-adds : goal.returns-then-allows-clause-adds
returns-then-allows-clause-adds c =
    rings_most (16 * c.args.delay) (omega (arith, (c.allows.ensures c.if-allows.true).2))
    (rings_trans c.in_ok-make.ensures.adds (rings_same c.make.new.self.left c.in_ok-y-2.ensures.adds))

pub returns-then-allows-clause-tap : goal.returns-then-allows-clause-tap
returns-then-allows-clause-tap c =
    let wide = net_width (net_later c.in_ok-make.ensures.adds.grows.extends c.requires.net) in
    read_tap c.in_ok-y-2.y c.make.new.self c.args.clocks.now.rst _ _ _ _ _ _ wide c.in_ok-make.ensures.rows c.in_ok-y-2.ensures.tap

pub returns-clause-belongs : goal.returns-clause-belongs
returns-clause-belongs c = belongs_grows _ _ _ c.in_ok-y-3.ensures.adds.grows c.requires.belongs

pub returns-clause-keeps : goal.returns-clause-keeps
returns-clause-keeps c = keeps_same _

pub returns-clause-rows : goal.returns-clause-rows
returns-clause-rows c = (rings_grow c.in_ok-y-3.ensures.adds.grows.extends c.requires.rows)

pub returns-clause-adds : goal.returns-clause-adds
returns-clause-adds c = rings_most (16 * c.args.delay) (omega arith) (rings_same c.args.self.now.left c.in_ok-y-3.ensures.adds)

pub returns-clause-tap : goal.returns-clause-tap
returns-clause-tap c = c.in_ok-y-3.ensures.tap c.args.clocks.now.rst
