-- Which nets of a netlist are kept: those from which an output, an input or a product is reached.
use Rattle.std.specs.Prelude.{◌≡◌, ℕ, ◌+◌, ◌<◌, ◌≤◌, ◌⊎◌, Bool, true, false, not, List, length, Some, slice_get}
use Rattle.std.specs.List.{count_by}
use Rattle.ae_netlist.specs.declared.cell.NetId.{NetId}
use Rattle.ae_netlist.specs.declared.cell.Cell.{Cell}
use Rattle.ae_netlist.specs.declared.cell.Cell.TheVariants.{Input, Const, Op, Reg, Mem, Peek}
use Rattle.ae_netlist.specs.declared.cell.SizedCell.{SizedCell}
use Rattle.ae_netlist.specs.declared.cell.Outlet.{Outlet}
use Rattle.ae_netlist.specs.Circuit.{Circuit, operand}
use Rattle.ae_netlist.specs.Counts.{is_product}

-- so it is of each net that a cell reads
abbrev pub EachRead : (ℕ → Type 0) → Cell → Type 0
EachRead P (Input port) = Unit {0}
EachRead P (Const k) = Unit {0}
EachRead P (Op op args) = P (operand args 0) × P (operand args 1) × P (operand args 2)
EachRead P (Reg next) = P next.0
EachRead P (Mem depth at next enable) = P at.0 × P next.0 × P enable.0
EachRead P (Peek mem at) = P mem.0 × P at.0

pub record IsKept (keep : List Bool) (n : ℕ) : Type 0 where
  pub kept : slice_get keep n ≡ Some true

-- the net stands in the line, at this place or behind it
pub record Waits (line : List NetId) (from n : ℕ) : Type 0 where
  pub place : ℕ
  pub later : from ≤ place
  pub found : slice_get line place ≡ Some (record { 0 = n })

-- how many nets are not kept yet
abbrev pub left_out : List Bool → ℕ
left_out keep = count_by not keep

-- more nets are kept, and the new ones among them wait in the line
pub record Grows (keep : List Bool) (line : List NetId) (more : List Bool) (longer : List NetId) : Type 0 where
  pub long : length more ≡ length keep
  pub stay : (n : ℕ) → IsKept keep n → IsKept more n
  pub new : (n : ℕ) → IsKept more n → IsKept keep n ⊎ Waits longer (length line) n
  pub queue : (k : ℕ) (n : NetId) → slice_get line k ≡ Some n → slice_get longer k ≡ Some n
  pub more_wait : length line ≤ length longer
  pub once : left_out more + length longer ≡ left_out keep + length line

-- what a kept net reads is kept, unless the net still waits
pub record AreFollowed (cells : List SizedCell) (keep : List Bool) (line : List NetId) (from : ℕ) : Type 0 where
  pub each : (n : ℕ) (sized : SizedCell) → IsKept keep n → slice_get cells n ≡ Some sized
      → EachRead (IsKept keep) sized.cell ⊎ Waits line from n

-- a cell that is kept even where nothing reads it
abbrev pub is_root : Cell → Bool
is_root (Input port) = true
is_root (Const k) = false
is_root (Op op args) = is_product op
is_root (Reg next) = false
is_root (Mem depth at next enable) = false
is_root (Peek mem at) = false

-- the roots among the first cells are kept, and what the first outputs show
pub record AreRoots (cells : List SizedCell) (keep : List Bool) (to : ℕ) : Type 0 where
  pub each : (n : ℕ) (sized : SizedCell) → n < to → slice_get cells n ≡ Some sized → is_root sized.cell ≡ true
      → IsKept keep n

pub record AreOutputs (outlets : List Outlet) (keep : List Bool) (to : ℕ) : Type 0 where
  pub each : (k : ℕ) (o : Outlet) → k < to → slice_get outlets k ≡ Some o → IsKept keep o.net.0

pub record AreRooted (c : Circuit) (keep : List Bool) : Type 0 where
  pub long : length keep ≡ length c.cells
  pub roots : AreRoots c.cells keep (length c.cells)
  pub outputs : AreOutputs c.outlets keep (length c.outlets)

pub record AreMarked (c : Circuit) (keep : List Bool) : Type 0 where
  pub rooted : AreRooted c keep
  pub reads : (n : ℕ) (sized : SizedCell) → IsKept keep n → slice_get c.cells n ≡ Some sized
      → EachRead (IsKept keep) sized.cell
