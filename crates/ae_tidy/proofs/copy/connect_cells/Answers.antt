-- Each turn connects one cell more.
use Rattle.std.proofs.Common.{◌≡◌, length, sym, ◌∙◌, arith}
use Rattle.ae_tidy.proofs.copy.connect_cells.Goals as goal

pub loop-m-preserved : goal.loop-m-preserved
loop-m-preserved c = record {
  copied = c.connect_cell.ensures.copied;
  all = c.loop-m.invariant.all ∙ sym c.connect_cell.ensures.long;
  limit = c.connect_cell.ensures.limit ∙ c.loop-m.invariant.limit;
  outlets = c.connect_cell.ensures.outlets ∙ c.loop-m.invariant.outlets;
}

pub returns-clause-copied : goal.returns-clause-copied
returns-clause-copied c = let e : length c.loop-m.new.cells ≡ c.loop-m.m = omega (arith, c.loop-m.invariant.all) in rw e c.loop-m.invariant.copied
