-- Cells of one kind, counted and numbered in the order in which they were added.
use Rattle.std.specs.Prelude.{◌≡◌, ℕ, ◌≤◌, ◌^◌, ◌≢◌, Bool, true, false, List, length, Some, slice_get, take}
use Rattle.std.specs.List.{count_by, filter}
use Rattle.ae_word.specs.declared.op.WordOp.{WordOp}
use Rattle.ae_word.specs.WordTable.{row_of}
use Rattle.ae_netlist.specs.declared.cell.NetId.{NetId}
use Rattle.ae_netlist.specs.declared.cell.Cell.{Cell}
use Rattle.ae_netlist.specs.declared.cell.Cell.TheVariants.{Input, Const, Op, Reg, Mem, Peek}
use Rattle.ae_netlist.specs.declared.cell.SizedCell.{SizedCell}
use Rattle.ae_netlist.specs.Circuit.{width_of}

abbrev pub is_input : Cell → Bool
is_input (Input port) = true
is_input (Const k) = false
is_input (Op op args) = false
is_input (Reg next) = false
is_input (Mem depth at next enable) = false
is_input (Peek mem at) = false

abbrev pub is_register : Cell → Bool
is_register (Input port) = false
is_register (Const k) = false
is_register (Op op args) = false
is_register (Reg next) = true
is_register (Mem depth at next enable) = false
is_register (Peek mem at) = false

abbrev pub is_memory : Cell → Bool
is_memory (Input port) = false
is_memory (Const k) = false
is_memory (Op op args) = false
is_memory (Reg next) = false
is_memory (Mem depth at next enable) = true
is_memory (Peek mem at) = false

abbrev pub is_product : WordOp → Bool
is_product op = (row_of op).multiplies

-- an operator that multiplies
abbrev pub is_mul : Cell → Bool
is_mul (Input port) = false
is_mul (Const k) = false
is_mul (Op op args) = (row_of op).multiplies
is_mul (Reg next) = false
is_mul (Mem depth at next enable) = false
is_mul (Peek mem at) = false

-- how many cells are of a kind
abbrev pub count_of : (Cell → Bool) → List SizedCell → ℕ
count_of kind cells = count_by (λ sized. kind sized.cell) cells

-- how many cells of a kind stand before a net: the number of a net among those of its kind
abbrev pub number_of : (Cell → Bool) → List SizedCell → ℕ → ℕ
number_of kind cells net = count_of kind (take net cells)

-- the cells of a kind, in order
abbrev pub cells_of : (Cell → Bool) → List SizedCell → List SizedCell
cells_of kind cells = filter (λ sized. kind sized.cell) cells

-- net n is the one numbered k among those of a kind
pub record IsNumbered (kind : Cell → Bool) (cells : List SizedCell) (k n : ℕ) : Type 0 where
  pub sized : SizedCell
  pub found : slice_get cells n ≡ Some sized
  pub is_kind : kind sized.cell ≡ true
  pub place : number_of kind cells n ≡ k

-- the nets of a kind, in order
pub record AreNumbered (kind : Cell → Bool) (cells : List SizedCell) (nets : List NetId) : Type 0 where
  pub long : length nets ≡ count_of kind cells
  pub each : (k : ℕ) (net : NetId) → slice_get nets k ≡ Some net → IsNumbered kind cells k net.0

-- a memory is whole: it is connected, and its depth has room for all words of each of its addresses, those of its peeks among them
pub record IsWhole (cells : List SizedCell) (m depth at enable : ℕ) : Type 0 where
  pub connected : enable ≢ m
  pub deep : 2 ^ width_of cells at ≤ depth
  pub peeks : (n width : ℕ) (mem from : NetId) → slice_get cells n ≡ Some (record { width = width; cell = Peek mem from }) → mem.0 ≡ m → 2 ^ width_of cells from.0 ≤ depth

pub record AreWhole (cells : List SizedCell) : Type 0 where
  pub each : (m width depth : ℕ) (at next enable : NetId) → slice_get cells m ≡ Some (record { width = width; cell = Mem depth at next enable }) → IsWhole cells m depth at.0 enable.0
