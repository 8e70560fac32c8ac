-- The control, the queues, and the outputs.
use Rattle.std.proofs.Common.{◌+◌, ◌*◌, arith, length, ap, sym, ◌∙◌, subst}
use Rattle.ae_netlist.specs.Circuit.{IsNet, width_of}
use Rattle.ae_netlist.proofs.Growing.{net_later}
use Rattle.ae_streamed.proofs.Copied.{has_driver}
use Rattle.ae_streamed.proofs.wrapping.drive.Goals as goal
use Rattle.ae_gates.proofs.Added.{own_net as own_width}

pub columns-requires-clause-nets : goal.columns-requires-clause-nets
columns-requires-clause-nets c = λ k net found. own_width (net_later c.in_ok-c.ensures.longer.extends (c.requires.nets k net found))

pub show_all-requires-clause-none : goal.show_all-requires-clause-none
show_all-requires-clause-none c = c.in_ok-columns.ensures.longer.outlets ∙ (c.in_ok-c.ensures.longer.outlets ∙ c.requires.none)

pub show_all-requires-clause-asks : goal.show_all-requires-clause-asks
show_all-requires-clause-asks c = net_later c.in_ok-columns.ensures.longer.extends c.in_ok-c.ensures.nets.asks

pub show_all-requires-clause-one : goal.show_all-requires-clause-one
show_all-requires-clause-one c = net_later c.in_ok-columns.ensures.longer.extends c.in_ok-c.ensures.nets.one

pub show_all-requires-clause-nets : goal.show_all-requires-clause-nets
show_all-requires-clause-nets c = λ k l.
    subst (λ v. IsNet c.columns.new.nl.cells (v + 4 * k) (width_of c.columns.new.nl.cells (v + 4 * k))) (sym c.len-at.ensures)
    (own_width (c.in_ok-columns.ensures.columns.nets k (omega (arith, l, c.requires.shown))).1)

pub returns-clause-driver : goal.returns-clause-driver
returns-clause-driver c = λ m is.
    has_driver c.args.new.now c.control.new.nl c.columns.new.nl c.show_all.new.new m c.args.w c.args.blocks c.args.wait c.len-at.result c.args.made.now
    c.args.nl.now.outlets c.in_ok-c.c is
    c.in_ok-c.ensures.longer c.in_ok-c.ensures.control c.in_ok-c.ensures.nets c.len-at.ensures c.in_ok-columns.ensures.longer c.in_ok-columns.ensures.columns
    c.in_ok-show_all.ensures.cells c.in_ok-show_all.ensures.limit c.in_ok-show_all.ensures.shown

pub returns-clause-few : goal.returns-clause-few
returns-clause-few c = omega (arith, c.in_ok-c.ensures.few, c.in_ok-columns.ensures.long, c.requires.shown, ap length c.in_ok-show_all.ensures.cells)

pub control-requires-clause-room : goal.control-requires-clause-room
control-requires-clause-room c = omega (arith, c.requires.room)

pub columns-requires-clause-room : goal.columns-requires-clause-room
columns-requires-clause-room c = omega (arith, c.requires.room, c.in_ok-c.ensures.longer.limit, c.in_ok-c.ensures.few, c.requires.shown)
