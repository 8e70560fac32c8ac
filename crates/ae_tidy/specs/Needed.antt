-- Which nets of a netlist are needed: from an output, an input or a product they are reached by reading.
use Rattle.std.specs.Prelude.{◌≡◌, ℕ, ◌<◌, ◌⊎◌, true, Bool, List, length, Some, slice_get}
use Rattle.ae_netlist.specs.declared.cell.NetId.{NetId}
use Rattle.ae_netlist.specs.declared.cell.Cell.{Cell}
use Rattle.ae_netlist.specs.declared.cell.Cell.TheVariants.{Input, Const, Op, Reg, Mem, Peek}
use Rattle.ae_netlist.specs.declared.cell.SizedCell.{SizedCell}
use Rattle.ae_netlist.specs.declared.cell.Outlet.{Outlet}
use Rattle.ae_netlist.specs.Circuit.{Circuit, operand}
use Rattle.ae_tidy.specs.Marks.{IsKept, is_root}

-- the cell reads the net
abbrev pub Reads : Cell → ℕ → Type 0
Reads (Input port) n = ⊥
Reads (Const k) n = ⊥
Reads (Op op args) n = (n ≡ operand args 0) ⊎ ((n ≡ operand args 1) ⊎ (n ≡ operand args 2))
Reads (Reg next) n = n ≡ next.0
Reads (Mem depth at next enable) n = (n ≡ at.0) ⊎ ((n ≡ next.0) ⊎ (n ≡ enable.0))
Reads (Peek mem at) n = (n ≡ mem.0) ⊎ (n ≡ at.0)

-- an output shows the net, or it is an input or a product, or a needed cell reads it
pub data IsNeeded (c : Circuit) : (n : ℕ) → Type 0 where
  as_output : (n k : ℕ) (o : Outlet) → slice_get c.outlets k ≡ Some o → n ≡ o.net.0 → IsNeeded c n
  as_root : (n : ℕ) (sized : SizedCell) → slice_get c.cells n ≡ Some sized → is_root sized.cell ≡ true → IsNeeded c n
  as_read : (n reader : ℕ) (sized : SizedCell) → IsNeeded c reader → slice_get c.cells reader ≡ Some sized
      → Reads sized.cell n → IsNeeded c n

-- every cell is needed
pub record IsLean (c : Circuit) : Type 0 where
  pub needed : (n : ℕ) → n < length c.cells → IsNeeded c n

-- of the nets that are kept now, or stand in the line now, the new ones are such nets
pub record KeepsOnly (P : ℕ → Type 0) (keep : List Bool) (line : List NetId) (more : List Bool)
    (longer : List NetId) : Type 0 where
  pub kept : (n : ℕ) → IsKept more n → IsKept keep n ⊎ P n
  pub waits : (k : ℕ) (n : NetId) → slice_get longer k ≡ Some n → (slice_get line k ≡ Some n) ⊎ P n.0

-- what is kept or stands in the line is needed
pub record AreNeeded (c : Circuit) (keep : List Bool) (line : List NetId) : Type 0 where
  pub kept : (n : ℕ) → IsKept keep n → IsNeeded c n
  pub waits : (k : ℕ) (n : NetId) → slice_get line k ≡ Some n → IsNeeded c n.0
