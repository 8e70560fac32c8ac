use Rattle.std.proofs.Common.{◌≡◌, ◌<◌, ℕ, true, List, Some, length, slice_get}
use Rattle.ae_columns.specs.declared.steps.Step.{Step}
use Rattle.ae_columns.specs.Early.{AllComeLate, is_early}
use Rattle.ae_gather.proofs.early.each_early.Given as goal

abbrev pub invariant-loop-q : goal.invariant-loop-q
invariant-loop-q l = record {
  long : length l.early.items ≡ l.q;
  late : (q : ℕ) (steps : List Step) → q < l.q → slice_get l.columns q ≡ Some steps → is_early l.early.items q ≡ true → AllComeLate steps;
}
