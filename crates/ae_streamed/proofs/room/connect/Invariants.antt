use Rattle.std.proofs.Common.{◌≡◌, length}
use Rattle.ae_streamed.specs.Room.{IsMade}
use Rattle.ae_streamed.proofs.room.connect.Given as goal

abbrev pub invariant-loop-n : goal.invariant-loop-n
invariant-loop-n l = record {
  all : l.n-end ≡ length l.nl.cells;
  made : IsMade l.nl.cells l.new.cells l.n;
  limit : l.new.limit ≡ l.fn.new.limit;
  outlets : l.new.outlets ≡ l.fn.new.outlets;
}
