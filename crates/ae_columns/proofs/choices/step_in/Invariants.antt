use Rattle.std.proofs.Common.{◌≡◌, ◌<◌, ◌≤◌, Some, length, slice_get, take}
use Rattle.ae_columns.specs.declared.steps.Step.{Step}
use Rattle.ae_columns.specs.Plans.{choice_in}
use Rattle.ae_columns.proofs.choices.step_in.Given as goal

abbrev pub invariant-loop-place : goal.invariant-loop-place
invariant-loop-place l = record {
  before : l.at < l.place;
  within : l.place ≤ length l.steps;
  is : (step : Step) → slice_get l.steps l.at ≡ Some step → choice_in l.phase (take l.place l.steps) ≡ step.take;
}
