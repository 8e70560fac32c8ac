-- What a cell of a tidied netlist has to do with the old cells for which it stands.
use Rattle.std.specs.Prelude.{◌≡◌, ℕ, ◌<◌, ◌≤◌, nat_le, Bool, true, false, not, ◌||◌, List, Option, Some, None, slice_get}
use Rattle.ae_netlist.specs.declared.cell.NetId.{NetId}
use Rattle.ae_netlist.specs.declared.cell.Cell.{Cell}
use Rattle.ae_netlist.specs.declared.cell.Cell.TheVariants.{Input, Const, Op, Reg, Mem, Peek}
use Rattle.ae_netlist.specs.declared.cell.SizedCell.{SizedCell}
use Rattle.ae_netlist.specs.Circuit.{operand}
use Rattle.ae_netlist.specs.Counts.{is_input, is_product, number_of}

-- inputs and products are kept each for itself; of other cells one may stand for all that are equal
abbrev pub may_merge : Cell → Bool
may_merge (Input port) = false
may_merge (Const k) = true
may_merge (Op op args) = not (is_product op)
may_merge (Reg next) = true
may_merge (Mem depth at next enable) = true
may_merge (Peek mem at) = true

-- a register or a memory that takes a net that does not stand before it
abbrev pub late_cell : ℕ → Cell → Bool
late_cell n (Input port) = false
late_cell n (Const k) = false
late_cell n (Op op args) = false
late_cell n (Reg next) = nat_le n next.0
late_cell n (Mem depth at next enable) = nat_le n at.0 || (nat_le n next.0 || nat_le n enable.0)
late_cell n (Peek mem at) = false

abbrev pub late_in : ℕ → Option SizedCell → Bool
late_in n None = false
late_in n (Some sized) = late_cell n sized.cell

unfoldable pub is_late : List SizedCell → ℕ → Bool
is_late old n = late_in n (slice_get old n)

-- a register or a memory that names itself: it is not connected
abbrev pub fresh_cell : (own : ℕ) → Cell → Cell
fresh_cell own (Input port) = Reg (record { 0 = own })
fresh_cell own (Const k) = Reg (record { 0 = own })
fresh_cell own (Op op args) = Reg (record { 0 = own })
fresh_cell own (Reg next) = Reg (record { 0 = own })
fresh_cell own (Mem depth at next enable) = Mem depth (record { 0 = own }) (record { 0 = own }) (record { 0 = own })
fresh_cell own (Peek mem at) = Reg (record { 0 = own })

-- a connected cell that may stand for others
pub record IsThere (cells : List SizedCell) (net : ℕ) (sized : SizedCell) : Type 0 where
  pub found : slice_get cells net ≡ Some sized
  pub merges : may_merge sized.cell ≡ true
  pub connected : late_cell net sized.cell ≡ false

-- net n of the old netlist has net m of the new one in its place
pub record Maps (table : List (Option NetId)) (n m : ℕ) : Type 0 where
  pub found : slice_get table n ≡ Some (Some (record { 0 = m }))

-- the same cell, on nets that have the places of its nets
abbrev pub IsImage : List (Option NetId) → Cell → Cell → Type 0
IsImage table (Input port) new = new ≡ Input port
IsImage table (Const k) new = new ≡ Const k
IsImage table (Op op args) new =
    (to : List NetId) × (new ≡ Op op to) × Maps table (operand args 0) (operand to 0)
    × Maps table (operand args 1) (operand to 1) × Maps table (operand args 2) (operand to 2)
IsImage table (Reg next) new = (to : NetId) × (new ≡ Reg to) × Maps table next.0 to.0
IsImage table (Mem depth at next enable) new =
    (a : NetId) × (b : NetId) × (c : NetId) × (new ≡ Mem depth a b c) × Maps table at.0 a.0 × Maps table next.0 b.0
    × Maps table enable.0 c.0
IsImage table (Peek mem at) new =
    (m : NetId) × (a : NetId) × (new ≡ Peek m a) × Maps table mem.0 m.0 × Maps table at.0 a.0

-- net m stands for net n. Late cells name themselves as long as their number is not below `done`; none stands for two
pub record Stands (old new : List SizedCell) (table : List (Option NetId)) (made : List NetId)
    (done n m : ℕ) : Type 0 where
  pub sized : SizedCell
  pub image : SizedCell
  pub found : slice_get old n ≡ Some sized
  pub there : slice_get new m ≡ Some image
  pub wide : image.width ≡ sized.width
  pub alike : (is_late old n ≡ true → m < done) → IsImage table sized.cell image.cell
  pub fresh : is_late old n ≡ true → done ≤ m → image.cell ≡ fresh_cell m sized.cell
  pub own : is_late old n ≡ true → slice_get made m ≡ Some (record { 0 = n })
  pub kind : (k : NetId) → slice_get made m ≡ Some k → is_late old k.0 ≡ is_late old n
  pub number : is_input sized.cell ≡ true → number_of is_input new m ≡ number_of is_input old n
