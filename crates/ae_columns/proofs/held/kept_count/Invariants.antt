use Rattle.std.proofs.Common.{◌≡◌, ◌≤◌}
use Rattle.ae_columns.specs.Held.{kept_count}
use Rattle.ae_columns.proofs.held.kept_count.Given as goal

abbrev pub invariant-loop-q : goal.invariant-loop-q
invariant-loop-q l = record {
  is : l.count ≡ kept_count l.held l.q;
  few : l.count ≤ l.q;
}
