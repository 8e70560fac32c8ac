use Rattle.std.proofs.Common.{◌≡◌, [], length}
use Rattle.ae_tidy.specs.Copies.{IsCopied}
use Rattle.ae_tidy.proofs.copy.copy.Given as goal

abbrev pub invariant-loop-n : goal.invariant-loop-n
invariant-loop-n l = record {
  all : l.n-end ≡ length l.nl.cells;
  copied : IsCopied l.nl.cells l.keep l.new.cells l.table.at.items l.table.made.items l.n 0;
  limit : l.new.limit ≡ length l.nl.cells;
  outlets : l.new.outlets ≡ [];
}
