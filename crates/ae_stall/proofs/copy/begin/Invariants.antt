use Rattle.std.proofs.Common.{◌≡◌, ◌∷◌, map, take, length}
use Rattle.ae_stall.specs.Images.{bit_input}
use Rattle.ae_stall.specs.Copies.{reset_cell}
use Rattle.ae_stall.proofs.copy.begin.Given as goal

abbrev pub invariant-loop-k : goal.invariant-loop-k
invariant-loop-k l = record {
  all : l.k-end ≡ length l.ports;
  cells : l.new.cells ≡ reset_cell ∷ map bit_input (take l.k l.ports);
  outlets : l.new.outlets ≡ l.fn.new.outlets;
  limit : l.new.limit ≡ l.fn.new.limit;
}
