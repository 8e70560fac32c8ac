-- A copy, the control around it, and the copy held.
use Rattle.std.proofs.Common.{length, ap, sym, ◌∙◌, arith, subst}
use Rattle.std.proofs.lemmas.List.{length-map}
use Rattle.ae_netlist.specs.declared.cell.Outlet.{Outlet}
use Rattle.ae_stall.specs.Images.{placed_net}
use Rattle.ae_control.specs.Controls.{AreWires}
use Rattle.ae_streamed.proofs.Copied.{copied_wires, is_wrapped, made_nets, may_be_held}
use Rattle.ae_streamed.proofs.wrapping.wrap.Goals as goal

pub drive-requires-clause-marks : goal.drive-requires-clause-marks
drive-requires-clause-marks c = (c.args.m, c.placed_wires-w.ensures)

pub drive-requires-clause-wires : goal.drive-requires-clause-wires
drive-requires-clause-wires c =
    subst (AreWires c.in_ok-new.new.cells) (sym c.placed_wires-w.ensures)
    (copied_wires c.args.nl.now.cells c.in_ok-new.new.cells c.args.m c.requires.reset c.requires.marks c.in_ok-new.ensures.copied)

pub drive-requires-clause-nets : goal.drive-requires-clause-nets
drive-requires-clause-nets c =
    made_nets c.args.nl.now.cells c.in_ok-new.new.cells c.args.nl.now.outlets c.deref.result.now
    (c.deref.ensures.value ∙ c.in_ok-made.ensures) c.formed.ensures.outlets c.in_ok-new.ensures.copied

pub drive-requires-clause-shown : goal.drive-requires-clause-shown
drive-requires-clause-shown c =
    ap length (c.deref.ensures.value ∙ c.in_ok-made.ensures) ∙ length-map c.args.nl.now.outlets (λ (o : Outlet). placed_net 2 o.net)

pub hold-requires-clause-may : goal.hold-requires-clause-may
hold-requires-clause-may c =
    may_be_held c.args.nl.now c.in_ok-new.new c.drive.new.new c.args.m c.args.blocks c.args.wait c.deref.result.now c.args.nl.now.outlets c.in_ok-c.c
    c.requires.reset c.in_ok-new.ensures.copied (c.in_ok-c.ensures.driver c.args.m c.placed_wires-w.ensures)

pub hold-requires-clause-room : goal.hold-requires-clause-room
hold-requires-clause-room c =
    let d = c.in_ok-c.ensures.driver c.args.m c.placed_wires-w.ensures in
    omega (arith, d.limit, c.in_ok-new.ensures.limit, c.in_ok-new.ensures.copied.long, c.in_ok-c.ensures.few)

pub returns-clause-wrapped : goal.returns-clause-wrapped
returns-clause-wrapped c =
    is_wrapped c.args.nl.now c.in_ok-new.new c.drive.new.new c.hold.new.new c.args.m c.args.blocks c.args.wait c.deref.result.now c.in_ok-c.c
    (c.deref.ensures.value ∙ c.in_ok-made.ensures) c.in_ok-new.ensures.copied
    (c.in_ok-c.ensures.driver c.args.m c.placed_wires-w.ensures) c.in_ok-hold.ensures.held c.in_ok-c.ensures.few c.in_ok-hold.ensures.whole

pub drive-requires-clause-room : goal.drive-requires-clause-room
drive-requires-clause-room c = omega (arith, c.in_ok-new.ensures.limit, c.in_ok-new.ensures.copied.long)
