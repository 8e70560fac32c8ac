use Rattle.std.proofs.Common.{ℕ, ◌≡◌, List, [], length, slice_get, Some}
use Rattle.ae_gather.proofs.plan.no_ages.Given as goal

abbrev pub invariant-loop-i : goal.invariant-loop-i
invariant-loop-i l = record {
  long : length l.lines.items ≡ l.i;
  none : (q : ℕ) (ages : List ℕ) → slice_get l.lines.items q ≡ Some ages → ages ≡ [];
}
