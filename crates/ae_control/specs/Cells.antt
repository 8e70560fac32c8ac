-- Cells of which the control is made: choices between two nets, and registers.
use Rattle.std.specs.Prelude.{◌≡◌, ℕ, ◌+◌, ◌*◌, ◌<◌, ◌≤◌, ◌⊎◌, false, List, length, Some, slice_get}
use Rattle.ae_word.specs.declared.op.WordOp.TheVariants.{Mux}
use Rattle.ae_netlist.specs.declared.cell.NetId.{NetId}
use Rattle.ae_netlist.specs.declared.cell.Cell.{Cell}
use Rattle.ae_netlist.specs.declared.cell.Cell.TheVariants.{Input, Const, Op, Reg, Mem, Peek}
use Rattle.ae_netlist.specs.declared.cell.SizedCell.{SizedCell}
use Rattle.ae_netlist.specs.Circuit.{Circuit, Extends, IsNet, new_register, operand}
use Rattle.ae_netlist.specs.Counts.{is_product}
use Rattle.ae_netlist.specs.Runs.{Clock, IsRun}

-- the second of three nets where the first is 1, and else the third
abbrev pub choice : (width : ℕ) → List NetId → SizedCell
choice width nets = record { width = width; cell = Op Mux nets }

abbrev pub taking : (width : ℕ) → NetId → SizedCell
taking width next = record { width = width; cell = Reg next }

-- net n is one of these cells, or one of the first so many that come behind them
abbrev pub StandsBefore : (cells : List SizedCell) (width count n wide : ℕ) → Type 0
StandsBefore cells width count n wide =
    IsNet cells n wide ⊎ ((length cells ≤ n) × (n < length cells + count) × (width ≡ wide))

-- three nets between which a choice of this width can be made by the cell that comes so many behind these
pub record IsChoice (cells : List SizedCell) (width count : ℕ) (nets : List NetId) : Type 0 where
  pub condition : StandsBefore cells width count (operand nets 0) 1
  pub left : StandsBefore cells width count (operand nets 1) width
  pub right : StandsBefore cells width count (operand nets 2) width

pub record AreChoices (cells : List SizedCell) (width : ℕ) (gates : List (List NetId)) : Type 0 where
  pub each : (k : ℕ) (nets : List NetId) → slice_get gates k ≡ Some nets → IsChoice cells width k nets

-- of such cells a control is made: constants, registers, and operators that do not multiply
abbrev pub IsControlCell : Cell → Type 0
IsControlCell (Input port) = ⊥
IsControlCell (Const constant) = Unit {0}
IsControlCell (Op op args) = is_product op ≡ false
IsControlCell (Reg next) = Unit {0}
IsControlCell (Mem depth at next enable) = ⊥
IsControlCell (Peek mem at) = ⊥

-- behind these cells stand no others
abbrev pub AddsControl : (old new : List SizedCell) → Type 0
AddsControl old new =
    (n : ℕ) (sized : SizedCell) → length old ≤ n → slice_get new n ≡ Some sized → IsControlCell sized.cell

-- a netlist with such cells behind its own, and the same outputs
pub record IsLonger (old new : Circuit) : Type 0 where
  pub extends : Extends old.cells new.cells
  pub added : AddsControl old.cells new.cells
  pub limit : new.limit ≡ old.limit
  pub outlets : new.outlets ≡ old.outlets

-- behind its own cells come so many registers of one bit, each of which names itself
pub record HasRegisters (old new : Circuit) (count : ℕ) : Type 0 where
  pub longer : IsLonger old new
  pub long : length new.cells ≡ length old.cells + count
  pub each : (k : ℕ) → k < count → slice_get new.cells (length old.cells + k) ≡ Some
      (new_register (length old.cells + k) 1)

-- so many registers of one bit that stand one behind the other, and for each a net of one bit, every second one
pub record CanConnect (cells : List SizedCell) (first count next : ℕ) : Type 0 where
  pub registers : (k : ℕ) → k < count → (own : NetId) × (slice_get cells (first + k) ≡ Some (taking 1 own))
  pub nets : (k : ℕ) → k < count → IsNet cells (next + 2 * k) 1

-- these registers take these nets, and nothing else has changed
pub record AreConnected (old new : Circuit) (first next count : ℕ) : Type 0 where
  pub each : (k : ℕ) → k < count → slice_get new.cells (first + k) ≡ Some (taking 1 (record { 0 = next + 2 * k }))
  pub others : (n : ℕ) (sized : SizedCell) → (n < first) ⊎ (first + count ≤ n) → slice_get old.cells n ≡ Some sized
      → slice_get new.cells n ≡ Some sized
  pub nets : (n width : ℕ) → IsNet old.cells n width → IsNet new.cells n width
  pub long : length new.cells ≡ length old.cells
  pub limit : new.limit ≡ old.limit
  pub outlets : new.outlets ≡ old.outlets

-- another netlist has the cells from a number on as they are here
abbrev pub KeepsFrom : (from : ℕ) (cells all : List SizedCell) → Type 0
KeepsFrom from cells all =
    (n : ℕ) (sized : SizedCell) → from ≤ n → slice_get cells n ≡ Some sized → slice_get all n ≡ Some sized

-- what these cells make so in every run, whatever the cells before them are
abbrev pub InRunsFrom : (from : ℕ) → List SizedCell → (List Clock → Type 0) → Type 0
InRunsFrom from cells P = (all : List SizedCell) → KeepsFrom from cells all → (run : List Clock) → IsRun all run → P run
