use Rattle.std.proofs.Common.{◌≡◌, take, length}
use Rattle.ae_tidy.specs.Copies.{present, wanted}
use Rattle.ae_tidy.proofs.copy.show.Given as goal

abbrev pub invariant-loop-k : goal.invariant-loop-k
invariant-loop-k l = record {
  all : l.k-end ≡ length l.nl.outlets;
  cells : l.new.cells ≡ l.fn.new.cells;
  limit : l.new.limit ≡ l.fn.new.limit;
  shown : present l.new.outlets ≡ wanted l.table.at.items (take l.k l.nl.outlets);
}
