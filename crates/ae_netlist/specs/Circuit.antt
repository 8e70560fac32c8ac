-- A netlist as its sized cells in order; a net is the number of its cell.
use Rattle.std.specs.Prelude.{◌≡◌, ℕ, ◌<◌, ◌≤◌, ◌^◌, ◌⊎◌, false, List, Option, Some, None, slice_get, unwrap_or, take}
use Rattle.ae_word.specs.declared.op.WordOp.{WordOp}
use Rattle.ae_word.specs.declared.op.WordOp.TheVariants.{Add, Sub, Mul, And, Or, Xor, Not, Min, Max, Eq, Lt, Mux, Shl, Shr, Cast, SLt, SMin, SMax, Sar, SCast}
use Rattle.ae_word.specs.WordTable.{HasRange, result_width_of, is_signed, row_of}
use Rattle.ae_netlist.specs.declared.cell.NetId.{NetId}
use Rattle.ae_netlist.specs.declared.cell.Cell.{Cell}
use Rattle.ae_netlist.specs.declared.cell.Cell.TheVariants.{Input, Const, Op, Reg, Mem, Peek}
use Rattle.ae_netlist.specs.declared.cell.SizedCell.{SizedCell}
use Rattle.ae_netlist.specs.declared.cell.Outlet.{Outlet}

-- what a contract sees of a netlist
pub record Circuit : Type 0 where
  pub limit : ℕ
  pub cells : List SizedCell
  pub outlets : List Outlet

-- the cell is no memory
abbrev pub IsPlain : Cell → Type 0
IsPlain (Input port) = Unit {0}
IsPlain (Const k) = Unit {0}
IsPlain (Op op args) = Unit {0}
IsPlain (Reg next) = Unit {0}
IsPlain (Mem depth at next enable) = ⊥
IsPlain (Peek mem at) = Unit {0}

-- there is such a net, of this width, and it is no memory
pub record IsNet (cells : List SizedCell) (net width : ℕ) : Type 0 where
  pub sized : SizedCell
  pub found : slice_get cells net ≡ Some sized
  pub plain : IsPlain sized.cell
  pub wide : sized.width ≡ width

-- the width of a net, 0 where there is none
abbrev pub width_in : Option SizedCell → ℕ
width_in None = 0
width_in (Some sized) = sized.width

unfoldable pub width_of : List SizedCell → ℕ → ℕ
width_of cells net = width_in (slice_get cells net)

-- net r is a register of this width
pub record IsRegister (cells : List SizedCell) (r width : ℕ) : Type 0 where
  pub next : NetId
  pub found : slice_get cells r ≡ Some (record { width = width; cell = Reg next })

-- a register that keeps its word: it names itself
abbrev pub new_register : (own width : ℕ) → SizedCell
new_register own width = record { width = width; cell = Reg (record { 0 = own }) }

-- net m is a memory of so many words of this width
pub record IsMemory (cells : List SizedCell) (m width depth : ℕ) : Type 0 where
  pub at : NetId
  pub next : NetId
  pub enable : NetId
  pub found : slice_get cells m ≡ Some (record { width = width; cell = Mem depth at next enable })

abbrev pub depth_in_cell : Cell → ℕ
depth_in_cell (Input port) = 0
depth_in_cell (Const k) = 0
depth_in_cell (Op op args) = 0
depth_in_cell (Reg next) = 0
depth_in_cell (Mem depth at next enable) = depth
depth_in_cell (Peek mem at) = 0

-- the depth of a memory, 0 where there is none
abbrev pub depth_in : Option SizedCell → ℕ
depth_in None = 0
depth_in (Some sized) = depth_in_cell sized.cell

unfoldable pub depth_of : List SizedCell → ℕ → ℕ
depth_of cells net = depth_in (slice_get cells net)

-- a memory that is never written: it names itself
abbrev pub new_memory : (own width depth : ℕ) → SizedCell
new_memory own width depth = record { width = width; cell = Mem depth (record { 0 = own }) (record { 0 = own }) (record { 0 = own }) }

-- net n is a constant below a number
pub record IsConstantBelow (cells : List SizedCell) (n bound : ℕ) : Type 0 where
  pub width : ℕ
  pub constant : ℕ
  pub found : slice_get cells n ≡ Some (record { width = width; cell = Const constant })
  pub below : constant < bound

-- an address of a memory of this depth: the depth has room for all its words, or it is a constant in range
pub record IsAddress (cells : List SizedCell) (at depth : ℕ) : Type 0 where
  pub net : IsNet cells at (width_of cells at)
  pub inside : (2 ^ width_of cells at ≤ depth) ⊎ IsConstantBelow cells at depth

-- operand k of an operator, which has three, so the default is not read
abbrev pub operand : List NetId → ℕ → ℕ
operand args k = (unwrap_or (slice_get args k) (record { 0 = 0 })).0

-- the operand that has the width at which an operator works: the first, for a choice its first arm
abbrev pub main_operand : WordOp → List NetId → ℕ
main_operand op args = operand args (row_of op).main

-- the operands of an operator are nets of one width, but the condition of a choice has one bit
abbrev pub OperandsAre : WordOp → (ℕ → ℕ → Type 0) → List NetId → ℕ → Type 0
OperandsAre Add Net args w = Net (operand args 0) w × Net (operand args 1) w × Net (operand args 2) w
OperandsAre Sub Net args w = Net (operand args 0) w × Net (operand args 1) w × Net (operand args 2) w
OperandsAre Mul Net args w = Net (operand args 0) w × Net (operand args 1) w × Net (operand args 2) w
OperandsAre And Net args w = Net (operand args 0) w × Net (operand args 1) w × Net (operand args 2) w
OperandsAre Or Net args w = Net (operand args 0) w × Net (operand args 1) w × Net (operand args 2) w
OperandsAre Xor Net args w = Net (operand args 0) w × Net (operand args 1) w × Net (operand args 2) w
OperandsAre Not Net args w = Net (operand args 0) w × Net (operand args 1) w × Net (operand args 2) w
OperandsAre Min Net args w = Net (operand args 0) w × Net (operand args 1) w × Net (operand args 2) w
OperandsAre Max Net args w = Net (operand args 0) w × Net (operand args 1) w × Net (operand args 2) w
OperandsAre Eq Net args w = Net (operand args 0) w × Net (operand args 1) w × Net (operand args 2) w
OperandsAre Lt Net args w = Net (operand args 0) w × Net (operand args 1) w × Net (operand args 2) w
OperandsAre Mux Net args w = Net (operand args 0) 1 × Net (operand args 1) w × Net (operand args 2) w
OperandsAre (Shl k) Net args w = Net (operand args 0) w × Net (operand args 1) w × Net (operand args 2) w
OperandsAre (Shr k) Net args w = Net (operand args 0) w × Net (operand args 1) w × Net (operand args 2) w
OperandsAre (Cast v) Net args w = Net (operand args 0) w × Net (operand args 1) w × Net (operand args 2) w
OperandsAre SLt Net args w = Net (operand args 0) w × Net (operand args 1) w × Net (operand args 2) w
OperandsAre SMin Net args w = Net (operand args 0) w × Net (operand args 1) w × Net (operand args 2) w
OperandsAre SMax Net args w = Net (operand args 0) w × Net (operand args 1) w × Net (operand args 2) w
OperandsAre (Sar k) Net args w = Net (operand args 0) w × Net (operand args 1) w × Net (operand args 2) w
OperandsAre (SCast v) Net args w = Net (operand args 0) w × Net (operand args 1) w × Net (operand args 2) w

-- an operator on nets; the operators that read their operands as signed stand in no netlist
pub record IsOperation (cells : List SizedCell) (op : WordOp) (args : List NetId) (width : ℕ) : Type 0 where
  pub unsigned : is_signed op ≡ false
  pub range : HasRange op
  pub operands : OperandsAre op (IsNet cells) args (width_of cells (main_operand op args))
  pub result : width ≡ result_width_of op (width_of cells (main_operand op args))

-- a look into a memory of the same width
pub record IsPeek (cells : List SizedCell) (width m at : ℕ) : Type 0 where
  pub depth : ℕ
  pub memory : IsMemory cells m width depth
  pub address : IsAddress cells at depth

-- a cell that may be added to these cells: an input, a constant, an operator or a peek
abbrev pub IsAllowed : List SizedCell → ℕ → Cell → Type 0
IsAllowed cells width (Input port) = Unit {0}
IsAllowed cells width (Const constant) = constant < 2 ^ width
IsAllowed cells width (Op op args) = IsOperation cells op args width
IsAllowed cells width (Reg next) = ⊥
IsAllowed cells width (Mem depth at next enable) = ⊥
IsAllowed cells width (Peek mem at) = IsPeek cells width mem.0 at.0

-- what is written into a memory, and where and when
pub record IsWritten (cells : List SizedCell) (width depth at next enable : ℕ) : Type 0 where
  pub address : IsAddress cells at depth
  pub word : IsNet cells next width
  pub bit : IsNet cells enable 1

-- a memory that is not connected names itself
pub record NamesItself (own at next enable : ℕ) : Type 0 where
  pub at_own : at ≡ own
  pub next_own : next ≡ own
  pub enable_own : enable ≡ own

-- a cell that may stand at its own number behind the cells before it, among all cells
abbrev pub CellFits : (before cells : List SizedCell) → (own width : ℕ) → Cell → Type 0
CellFits before cells own width (Input port) = Unit {0}
CellFits before cells own width (Const constant) = constant < 2 ^ width
CellFits before cells own width (Op op args) = IsOperation before op args width
CellFits before cells own width (Reg next) = IsNet cells next.0 width
CellFits before cells own width (Mem depth at next enable) = (1 ≤ depth) × (depth ≤ 65536) × (NamesItself own at.0 next.0 enable.0 ⊎ IsWritten cells width depth at.0 next.0 enable.0)
CellFits before cells own width (Peek mem at) = IsPeek before width mem.0 at.0

pub record SizedCellFits (before cells : List SizedCell) (own : ℕ) (sized : SizedCell) : Type 0 where
  pub low : 1 ≤ sized.width
  pub high : sized.width ≤ 64
  pub cell : CellFits before cells own sized.width sized.cell

-- every operand stands before its operator, so nothing depends on itself within a clock
pub record IsFormed (cells : List SizedCell) : Type 0 where
  pub each : (n : ℕ) (sized : SizedCell) → slice_get cells n ≡ Some sized → SizedCellFits (take n cells) cells n sized

-- each output shows a net that is there and is no memory
pub record HaveNets (cells : List SizedCell) (outlets : List Outlet) : Type 0 where
  pub each : (k : ℕ) (outlet : Outlet) → slice_get outlets k ≡ Some outlet → IsNet cells outlet.net.0 (width_of cells outlet.net.0)

-- the old cells are, unchanged, the first of the new
pub record Extends (old new : List SizedCell) : Type 0 where
  pub keeps : (n : ℕ) (sized : SizedCell) → slice_get old n ≡ Some sized → slice_get new n ≡ Some sized
