use Rattle.std.proofs.Common.{◌≡◌, length, take}
use Rattle.ae_streamed.proofs.room.show.Given as goal

abbrev pub invariant-loop-k : goal.invariant-loop-k
invariant-loop-k l = record {
  all : l.k-end ≡ length l.nl.outlets;
  cells : l.new.cells ≡ l.nl.cells;
  limit : l.new.limit ≡ l.fn.new.limit;
  outlets : l.new.outlets ≡ take l.k l.nl.outlets;
}
