-- How many cells a control has.
use Rattle.std.specs.Prelude.{ℕ, ◌+◌, ◌*◌}

-- of the control of a circuit whose latency is so many blocks and some clocks
abbrev pub control_cells : (blocks : ℕ) → ℕ
control_cells blocks = 4 * blocks + 35
