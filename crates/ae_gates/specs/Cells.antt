-- How a netlist grows, and what the nets of its gates hold in every run.
use Rattle.std.specs.Prelude.{◌≡◌, ℕ, ◌+◌, ◌^◌, ◌<◌, ◌≤◌, Bool, true, false, List, length}
use Rattle.ae_word.specs.declared.op.WordOp.{WordOp}
use Rattle.ae_word.specs.declared.op.WordOp.TheVariants.{Add, Sub, Mul, And, Or, Xor, Not, Min, Max, Eq, Lt, Mux, Shl, Shr, Cast, SLt, SMin, SMax, Sar, SCast}
use Rattle.ae_word.specs.WordTable.{word_result}
use Rattle.ae_netlist.specs.declared.cell.NetId.{NetId}
use Rattle.ae_netlist.specs.declared.cell.Cell.{Cell}
use Rattle.ae_netlist.specs.declared.cell.Cell.TheVariants.{Input, Const, Op, Reg, Mem, Peek}
use Rattle.ae_netlist.specs.declared.cell.SizedCell.{SizedCell}
use Rattle.ae_netlist.specs.Circuit.{Circuit, IsNet, Extends, operand}
use Rattle.ae_netlist.specs.Counts.{AreWhole, count_of, is_input, is_memory, is_mul, is_register}
use Rattle.ae_netlist.specs.Runs.{Clock, word_at, InEveryRunFrom}

-- an operator that compares
abbrev pub compares : WordOp → Bool
compares Add = false
compares Sub = false
compares Mul = false
compares And = false
compares Or = false
compares Xor = false
compares Not = false
compares Min = false
compares Max = false
compares Eq = true
compares Lt = true
compares Mux = false
compares (Shl k) = false
compares (Shr k) = false
compares (Cast v) = false
compares SLt = false
compares SMin = false
compares SMax = false
compares (Sar k) = false
compares (SCast v) = false

abbrev pub is_test : Cell → Bool
is_test (Input port) = false
is_test (Const k) = false
is_test (Op op args) = compares op
is_test (Reg next) = false
is_test (Mem depth at next enable) = false
is_test (Peek mem at) = false

-- a netlist that has grown: no cell that was there has changed, nor the limit, and no input and no output was added
pub record Grows (old new : Circuit) : Type 0 where
  pub extends : Extends old.cells new.cells
  pub limit : new.limit ≡ old.limit
  pub outlets : new.outlets ≡ old.outlets
  pub inputs : count_of is_input new.cells ≡ count_of is_input old.cells

-- one that has grown by at most so many cells, exactly so many of which multiply and none of which is a memory, and in which memories stay whole
pub record Adds (old new : Circuit) (most products : ℕ) : Type 0 where
  pub grows : Grows old new
  pub cells : length new.cells ≤ length old.cells + most
  pub muls : count_of is_mul new.cells ≡ count_of is_mul old.cells + products
  pub memories : count_of is_memory new.cells ≡ count_of is_memory old.cells
  pub whole : AreWhole old.cells → AreWhole new.cells

-- a netlist that has grown by gates alone: no register and no memory was added
pub record GrowsByGates (old new : Circuit) : Type 0 where
  pub grows : Grows old new
  pub registers : count_of is_register new.cells ≡ count_of is_register old.cells
  pub memories : count_of is_memory new.cells ≡ count_of is_memory old.cells

-- a netlist to which so many gates at most were added
pub record AddsGates (old new : Circuit) (most : ℕ) : Type 0 where
  pub grows : GrowsByGates old new
  pub more : length old.cells ≤ length new.cells
  pub few : length new.cells ≤ length old.cells + most

-- net y always has the word k
abbrev pub IsConstant : List Clock → ℕ → ℕ → Type 0
IsConstant run y k = (t : ℕ) → t < length run → word_at run t y ≡ k

-- net y has the operator's result on its operands of width v
abbrev pub IsResult : List Clock → ℕ → WordOp → ℕ → List NetId → Type 0
IsResult run y op v args =
    (t : ℕ) → t < length run → word_at run t y ≡ word_result op v (word_at run t (operand args 0))
    (word_at run t (operand args 1)) (word_at run t (operand args 2))

-- the net has this width, and in each clock of every run this value, which may depend on the run and the clock
pub record IsWord (from : ℕ) (cells : List SizedCell) (net width : ℕ) (value : List Clock → ℕ → ℕ) : Type 0 where
  pub found : IsNet cells net width
  pub words : InEveryRunFrom from cells (λ run. (t : ℕ) → t < length run → word_at run t net ≡ value run t)

-- in every run the value fits the width
abbrev pub AreBelow : ℕ → List SizedCell → ℕ → (List Clock → ℕ → ℕ) → Type 0
AreBelow from cells width value = InEveryRunFrom from cells (λ run. (t : ℕ) → t < length run → value run t < 2 ^ width)
