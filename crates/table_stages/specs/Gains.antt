-- How a netlist grows.
use Rattle.std.specs.Prelude.{◌≡◌, ℕ, ◌+◌, ◌≤◌, length}
use Rattle.ae_netlist.specs.Circuit.{Circuit, Extends}

-- at most so many cells more, and the same limit
pub record Gains (old new : Circuit) (most : ℕ) : Type 0 where
  pub extends : Extends old.cells new.cells
  pub cells : length new.cells ≤ length old.cells + most
  pub limit : new.limit ≡ old.limit
