-- Slowdowns.
use Rattle.std.specs.Prelude.{ℕ, ◌≤◌}

-- a slowdown within its limits
abbrev pub IsSlowdown : ℕ → Type 0
IsSlowdown s = (1 ≤ s) × (s ≤ 4096)
