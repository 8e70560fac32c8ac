use Rattle.std.proofs.Common.{◌≡◌, length}
use Rattle.ae_streamed.proofs.Copied.{AreFirstShown}
use Rattle.ae_streamed.proofs.wrapping.show_all.Given as goal

abbrev pub invariant-loop-k : goal.invariant-loop-k
invariant-loop-k l = record {
  all : l.k-end ≡ length l.nl.outlets;
  cells : l.new.cells ≡ l.fn.new.cells;
  limit : l.new.limit ≡ l.fn.new.limit;
  shown : AreFirstShown l.fn.c l.at l.k l.nl.outlets l.new.outlets;
}
