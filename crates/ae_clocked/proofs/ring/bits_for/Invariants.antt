use Rattle.std.proofs.Common.{ℕ, ◌<◌, ◌≤◌, ◌^◌}
use Rattle.ae_clocked.proofs.ring.bits_for.Given as goal

abbrev pub invariant-loop-bits : goal.invariant-loop-bits
invariant-loop-bits l = (v : ℕ) → 3 ≤ v → v < l.bits → 2 ^ v < l.reach
