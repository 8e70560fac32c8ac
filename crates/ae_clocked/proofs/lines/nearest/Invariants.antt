use Rattle.std.proofs.Common.{ℕ, ◌<◌, ◌≤◌, get_or}
use Rattle.ae_clocked.specs.Delays.{greatest_of}
use Rattle.ae_clocked.proofs.lines.nearest.Given as goal

abbrev pub invariant-loop-tap : goal.invariant-loop-tap
invariant-loop-tap l = record {
  below : l.most < 8;
  least : l.most ≤ greatest_of l.taps;
  each : (k : ℕ) → k < l.tap-index → get_or l.taps k 0 < 8 → get_or l.taps k 0 ≤ l.most;
}
