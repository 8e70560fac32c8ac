use Rattle.std.proofs.Common.{ℕ, ◌≡◌, ◌<◌, length, get_or, None}
use Rattle.ae_moves.specs.Usages.{held_from}
use Rattle.ae_moves.proofs.mems.held_columns.Given as goal

abbrev pub invariant-loop-q : goal.invariant-loop-q
invariant-loop-q l = record {
  long : length l.held.items ≡ l.q;
  each : (p : ℕ) → p < l.q → get_or l.held.items p None ≡ held_from (get_or l.usages.items p None) (get_or l.ages.items p 0);
}
