use Rattle.std.proofs.Common.{◌≡◌, ◌<◌, ℕ, Some, slice_get}
use Rattle.ae_columns.specs.declared.steps.Step.{Step}
use Rattle.ae_columns.specs.Early.{ComesLate}
use Rattle.ae_gather.proofs.early.all_come_late.Given as goal

abbrev pub invariant-loop-k : goal.invariant-loop-k
invariant-loop-k l = record { late : (k : ℕ) (step : Step) → k < l.k → slice_get l.steps k ≡ Some step → ComesLate step.take }
