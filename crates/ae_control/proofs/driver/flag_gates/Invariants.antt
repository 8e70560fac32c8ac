use Rattle.ae_control.specs.Controls.{HasFlagGates}
use Rattle.ae_control.proofs.driver.flag_gates.Given as goal

abbrev pub invariant-loop-j : goal.invariant-loop-j
invariant-loop-j l = HasFlagGates l.fn.nl l.nl l.reset l.at l.j
