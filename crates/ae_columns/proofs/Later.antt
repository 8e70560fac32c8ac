-- The choice of steps before and after a phase.
use Rattle.std.proofs.Common.{ℕ, ◌≡◌, ◌<◌, ◌≤◌, true, false, nat_lt, arith, refl}
use Rattle.ae_moves.specs.declared.trip.Choice.{Choice}
use Rattle.ae_columns.specs.declared.steps.Step.{Step}
use Rattle.ae_columns.specs.Plans.{later}

pub later_before : (p : ℕ) (before : Choice) (step : Step) → p < step.from → later p before step ≡ before
later_before p before step l = let t : nat_lt p step.from ≡ true = search (arith) in rw t refl

pub later_after : (p : ℕ) (before : Choice) (step : Step) → step.from ≤ p → later p before step ≡ step.take
later_after p before step l = let t : nat_lt p step.from ≡ false = search (arith) in rw t refl
