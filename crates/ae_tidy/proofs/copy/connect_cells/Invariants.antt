use Rattle.std.proofs.Common.{◌≡◌, length}
use Rattle.ae_tidy.specs.Copies.{IsCopied}
use Rattle.ae_tidy.proofs.copy.connect_cells.Given as goal

abbrev pub invariant-loop-m : goal.invariant-loop-m
invariant-loop-m l = record {
  copied : IsCopied l.nl.cells l.keep l.new.cells l.table.at.items l.table.made.items (length l.nl.cells) l.m;
  all : l.m-end ≡ length l.new.cells;
  limit : l.new.limit ≡ l.fn.new.limit;
  outlets : l.new.outlets ≡ l.fn.new.outlets;
}
