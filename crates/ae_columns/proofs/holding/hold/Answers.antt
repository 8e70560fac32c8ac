-- What the register holds, by the counter.
use Rattle.std.proofs.Common.{◌≡◌, ◌≤◌, ◌^◌, arith}
use Rattle.ae_netlist.specs.Circuit.{width_of}
use Rattle.ae_netlist.proofs.Growing.{net_width}
use Rattle.ae_gates.proofs.Added.{own_net}
use Rattle.ae_columns.proofs.Keeping.{held_made}
use Rattle.ae_columns.proofs.holding.hold.Goals as goal

pub kept-requires-clause-counter : goal.kept-requires-clause-counter
kept-requires-clause-counter c = own_net c.requires.counter.1.is_net

pub kept-requires-clause-fits : goal.kept-requires-clause-fits
kept-requires-clause-fits c =
    let wide : width_of c.args.nl.now.cells c.args.counter.0 ≡ c.requires.counter.1.width = net_width c.requires.counter.1.is_net in
    let room : c.args.period ≤ 2 ^ c.requires.counter.1.width = c.requires.counter.1.holds.enough in
    rw wide (omega (arith, room))

pub returns-clause-held : goal.returns-clause-held
returns-clause-held c =
    held_made _ _ c.in_ok-y.y c.args.x c.args.counter c.args.width c.args.period c.args.offset c.args.q c.requires.begins c.in_ok-y.ensures.adds.grows
    c.in_ok-y.ensures.net c.in_ok-y.ensures.words
