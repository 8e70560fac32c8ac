-- Each turn connects one cell more.
use Rattle.std.proofs.Common.{◌∙◌, arith, refl}
use Rattle.ae_streamed.proofs.Remade.{made_none, made_same}
use Rattle.ae_streamed.proofs.room.connect.Goals as goal

pub loop-n-init : goal.loop-n-init
loop-n-init c = record {
  all = c.len-n-end.ensures;
  made = made_none c.args.nl.now.cells c.args.new.now.cells c.requires.begun;
  limit = refl;
  outlets = refl;
}

pub loop-n-preserved : goal.loop-n-preserved
loop-n-preserved c = record {
  all = c.loop-n.invariant.all;
  made = c.connect_cell.ensures.made;
  limit = c.connect_cell.ensures.limit ∙ c.loop-n.invariant.limit;
  outlets = c.connect_cell.ensures.outlets ∙ c.loop-n.invariant.outlets;
}

pub returns-clause-cells : goal.returns-clause-cells
returns-clause-cells c =
    made_same c.args.nl.now.cells c.loop-n.new.cells c.loop-n.n (omega (arith, c.loop-n.invariant.all, c.loop-n-test.false)) c.loop-n.invariant.made
