-- Each turn adds one cell more.
use Rattle.std.proofs.Common.{◌≡◌, ◌∙◌, arith, length, refl, sym, subst}
use Rattle.ae_streamed.specs.Room.{IsBegun}
use Rattle.ae_streamed.proofs.Remade.{begun_none}
use Rattle.ae_streamed.proofs.room.begin.Goals as goal

pub loop-n-init : goal.loop-n-init
loop-n-init c = record {
  all = c.len-n-end.ensures;
  begun = subst (λ v. IsBegun c.args.nl.now.cells v 0) (sym c.requires.none) (begun_none c.args.nl.now.cells);
  limit = refl;
  outlets = refl;
}

pub loop-n-preserved : goal.loop-n-preserved
loop-n-preserved c = record {
  all = c.loop-n.invariant.all;
  begun = c.in_ok-begin_cell.ensures.begun;
  limit = c.in_ok-begin_cell.ensures.limit ∙ c.loop-n.invariant.limit;
  outlets = c.in_ok-begin_cell.ensures.outlets ∙ c.loop-n.invariant.outlets;
}

pub returns-clause-begun : goal.returns-clause-begun
returns-clause-begun c =
    let end : c.loop-n.n ≡ length c.args.nl.now.cells = omega (arith, c.loop-n.invariant.all, c.loop-n-test.false, c.loop-n.invariant.begun.within) in
    subst (IsBegun c.args.nl.now.cells c.loop-n.new.cells) end c.loop-n.invariant.begun

pub begin_cell-requires-clause-room : goal.begin_cell-requires-clause-room
begin_cell-requires-clause-room c = omega (
  arith,
  c.requires.room,
  c.loop-n.invariant.limit,
  c.loop-n.invariant.begun.long,
  c.loop-n.invariant.all,
  c.loop-n-test.true,
)
