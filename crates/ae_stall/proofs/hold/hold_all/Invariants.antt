use Rattle.std.proofs.Common.{◌≡◌, length}
use Rattle.ae_stall.specs.Copies.{IsPartlyHeld}
use Rattle.ae_stall.proofs.hold.hold_all.Given as goal

abbrev pub invariant-loop-n : goal.invariant-loop-n
invariant-loop-n l = record {
  all : l.n-end ≡ length l.nl.cells;
  held : IsPartlyHeld l.how.more l.how.by.0 l.nl.cells l.fn.new.cells l.new.cells l.n;
  outlets : l.new.outlets ≡ l.fn.new.outlets;
  limit : l.new.limit ≡ l.fn.new.limit;
}
