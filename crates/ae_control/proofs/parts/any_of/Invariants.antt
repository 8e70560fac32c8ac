use Rattle.std.specs.Prelude.{◌≡◌, ◌+◌, length}
use Rattle.ae_netlist.specs.Circuit.{IsNet}
use Rattle.ae_control.specs.Cells.{IsLonger}
use Rattle.ae_control.specs.Controls.{HasAny}
use Rattle.ae_control.proofs.parts.any_of.Given as goal

abbrev pub invariant-loop-k : goal.invariant-loop-k
invariant-loop-k l = record {
  longer : IsLonger l.fn.nl l.nl;
  net : IsNet l.nl.cells l.any.0 1;
  long : length l.nl.cells ≡ length l.fn.nl.cells + l.k;
  any : HasAny l.nl.cells l.first l.k l.fn.low.0 l.high.0 (length l.fn.nl.cells) l.any.0;
}
