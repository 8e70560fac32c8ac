-- Each turn holds one cell more.
use Rattle.std.proofs.Common.{◌≡◌, ◌∙◌, length, arith, refl}
use Rattle.ae_stall.proofs.Copying.{held_none}
use Rattle.ae_stall.proofs.hold.hold_all.Goals as goal

pub loop-n-init : goal.loop-n-init
loop-n-init c = record {
  all = c.len-n-end.ensures;
  held = held_none c.args.how.more c.args.how.by.0 c.args.nl.now.cells c.args.new.now.cells c.requires.reset c.requires.may;
  outlets = refl;
  limit = refl;
}

pub hold_cell-requires-clause-held : goal.hold_cell-requires-clause-held
hold_cell-requires-clause-held c = (c.args.new.now.cells, c.loop-n.invariant.held)

pub hold_cell-requires-clause-room : goal.hold_cell-requires-clause-room
hold_cell-requires-clause-room c = omega (arith, c.loop-n.invariant.held.few, c.loop-n.invariant.all, c.loop-n.invariant.limit, c.requires.room)

pub loop-n-preserved : goal.loop-n-preserved
loop-n-preserved c = record {
  all = c.loop-n.invariant.all;
  held = c.in_ok-hold_cell.ensures.held c.args.new.now.cells c.loop-n.invariant.held;
  outlets = c.in_ok-hold_cell.ensures.outlets ∙ c.loop-n.invariant.outlets;
  limit = c.in_ok-hold_cell.ensures.limit ∙ c.loop-n.invariant.limit;
}

pub returns-clause-held : goal.returns-clause-held
returns-clause-held c =
    let end : c.loop-n.n ≡ length c.args.nl.now.cells = omega (arith, c.loop-n.invariant.all, c.loop-n.invariant.held.within) in
    rw end at c.loop-n.invariant.held
