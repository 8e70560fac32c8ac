-- How many cells more a netlist may have.
use Rattle.std.specs.Prelude.{ℕ, ◌+◌, ◌≤◌, length}
use Rattle.ae_netlist.specs.Circuit.{Circuit}

-- so many cells more have room
abbrev pub HasRoom : Circuit → ℕ → Type 0
HasRoom c most = length c.cells + most ≤ c.limit
