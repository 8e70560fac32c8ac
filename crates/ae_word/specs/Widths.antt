-- Widths.
use Rattle.std.specs.Prelude.{ℕ, ◌≤◌}

-- a width within its limits
abbrev pub IsWidth : ℕ → Type 0
IsWidth w = (1 ≤ w) × (w ≤ 64)
