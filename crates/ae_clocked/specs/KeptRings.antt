-- Rows of rings that are kept by the nets whose words they hold, and used again by what waits for these.
use Rattle.std.specs.Prelude.{◌≡◌, ℕ, ◌+◌, ◌/◌, ◌≤◌, nat_eq, List, length, Option, Some}
use Rattle.std.specs.Map.{lookup}
use Rattle.ae_netlist.specs.declared.cell.SizedCell.{SizedCell}
use Rattle.ae_netlist.specs.Circuit.{Circuit, IsNet}
use Rattle.ae_netlist.specs.Counts.{AreWhole, count_of, is_memory, is_mul}
use Rattle.ae_gates.specs.Cells.{Grows}
use Rattle.ae_clocked.specs.Rows.{AreLinks}
use Rattle.ae_clocked.specs.declared.rows.RingRow.{RingRow}

-- what contracts see of rows: how many memories may still be made for them, and each row by the number of its net
pub record KeptRings : Type 0 where
  pub left : ℕ
  pub rows : List (ℕ × RingRow)

-- the row of a net, where it was made
abbrev pub ring_row_at : KeptRings → (net : ℕ) → Option RingRow
ring_row_at kept x = lookup (nat_eq x) kept.rows

-- rings in a row that hold the words of net x, as far back as they say
pub record IsRingRow (cells : List SizedCell) (rst x : ℕ) (row : RingRow) : Type 0 where
  pub width : ℕ
  pub net : IsNet cells x width
  pub late : 1 ≤ row.reach
  pub long : length row.links.items ≡ (row.reach + 4095) / 4096
  pub links : AreLinks cells rst width x row.reach row.links.items

-- these rows hold words of a netlist
pub record RingsBelong (kept : KeptRings) (rst : ℕ) (cells : List SizedCell) : Type 0 where
  pub each : (x : ℕ) (row : RingRow) → ring_row_at kept x ≡ Some row → IsRingRow cells rst x row

-- a netlist that has grown by at most so many cells, none of which multiplies, and by no more memories than are left less
pub record AddsRings (old new : Circuit) (most before left : ℕ) : Type 0 where
  pub grows : Grows old new
  pub cells : length new.cells ≤ length old.cells + most
  pub muls : count_of is_mul new.cells ≡ count_of is_mul old.cells
  pub memories : count_of is_memory new.cells + left ≤ count_of is_memory old.cells + before
  pub whole : AreWhole old.cells → AreWhole new.cells
