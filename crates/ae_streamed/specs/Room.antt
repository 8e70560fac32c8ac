-- How far a netlist is made once more, cell by cell: first all cells, of which registers and memories name themselves; then
-- these are connected.
use Rattle.std.specs.Prelude.{◌≡◌, ℕ, ◌<◌, ◌≤◌, List, length, Some, slice_get}
use Rattle.ae_netlist.specs.declared.cell.Cell.{Cell}
use Rattle.ae_netlist.specs.declared.cell.Cell.TheVariants.{Input, Const, Op, Reg, Mem, Peek}
use Rattle.ae_netlist.specs.declared.cell.SizedCell.{SizedCell}
use Rattle.ae_control.specs.Controls.{net}

-- a register or a memory that names itself, and any other cell as it is
abbrev pub begun : ℕ → Cell → Cell
begun own (Input port) = Input port
begun own (Const k) = Const k
begun own (Op op args) = Op op args
begun own (Reg next) = Reg (net own)
begun own (Mem depth at next enable) = Mem depth (net own) (net own) (net own)
begun own (Peek mem at) = Peek mem at

abbrev pub begun_at : ℕ → SizedCell → SizedCell
begun_at own sized = record { width = sized.width; cell = begun own sized.cell }

-- the first so many cells have been added, and no others
pub record IsBegun (old new : List SizedCell) (count : ℕ) : Type 0 where
  pub within : count ≤ length old
  pub long : length new ≡ count
  pub each : (n : ℕ) (sized : SizedCell) → n < count → slice_get old n ≡ Some sized
      → slice_get new n ≡ Some (begun_at n sized)

-- all have, and the first so many are as they are to be
pub record IsMade (old new : List SizedCell) (count : ℕ) : Type 0 where
  pub long : length new ≡ length old
  pub within : count ≤ length old
  pub done : (n : ℕ) (sized : SizedCell) → n < count → slice_get old n ≡ Some sized → slice_get new n ≡ Some sized
  pub rest : (n : ℕ) (sized : SizedCell) → count ≤ n → slice_get old n ≡ Some sized
      → slice_get new n ≡ Some (begun_at n sized)
