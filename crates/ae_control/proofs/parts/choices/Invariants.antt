use Rattle.std.proofs.Common.{◌≡◌, ◌++◌, length, map, take}
use Rattle.ae_control.specs.Cells.{choice}
use Rattle.ae_control.proofs.parts.choices.Given as goal

abbrev pub invariant-loop-k : goal.invariant-loop-k
invariant-loop-k l = record {
  all : l.k-end ≡ length l.gates;
  added : l.nl ≡ record l.fn.nl { cells = l.fn.nl.cells ++ map (choice l.width) (take l.k l.gates) };
}
