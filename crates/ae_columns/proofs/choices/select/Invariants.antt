use Rattle.std.proofs.Common.{take, length, ◌+◌, ◌-◌, ◌*◌, ◌≤◌}
use Rattle.ae_gates.specs.Cells.{Adds}
use Rattle.ae_columns.specs.Counts.{Counted}
use Rattle.ae_columns.specs.Plans.{choice_in}
use Rattle.ae_columns.specs.Columns.{IsColumn}
use Rattle.ae_columns.proofs.choices.select.Given as goal

abbrev pub invariant-loop-k : goal.invariant-loop-k
invariant-loop-k l = record {
  adds : Adds l.fn.nl l.nl (1 + 11 * (l.k - 1)) 0;
  counted : Counted l.fn.nl l.nl 0 0 0 (l.k - 1);
  within : l.k ≤ length l.steps;
  column : IsColumn l.nl.cells l.clocks.rst l.width l.phase.net.0 l.phase.limit l.ins (λ p. choice_in p (take l.k l.steps)) l.net.0;
}
