use Rattle.std.proofs.Common.{◌≢◌, ◌<◌, ℕ, Some, slice_get}
use Rattle.ae_columns.proofs.phases.has.Given as goal

abbrev pub invariant-loop-q : goal.invariant-loop-q
invariant-loop-q l = record { none : (q : ℕ) → q < l.q → slice_get l.early q ≢ Some l.value }
