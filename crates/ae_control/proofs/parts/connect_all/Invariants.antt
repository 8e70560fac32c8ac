use Rattle.ae_control.specs.Cells.{AreConnected}
use Rattle.ae_control.proofs.parts.connect_all.Given as goal

abbrev pub invariant-loop-k : goal.invariant-loop-k
invariant-loop-k l = AreConnected l.fn.nl l.nl l.first l.next l.k
