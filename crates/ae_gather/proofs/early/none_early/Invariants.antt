use Rattle.std.proofs.Common.{◌≡◌, ℕ, false, length}
use Rattle.ae_columns.specs.Early.{is_early}
use Rattle.ae_gather.proofs.early.none_early.Given as goal

abbrev pub invariant-loop-i : goal.invariant-loop-i
invariant-loop-i l = record {
  long : length l.early.items ≡ l.i;
  none : (q : ℕ) → is_early l.early.items q ≡ false;
}
