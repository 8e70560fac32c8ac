-- How far a netlist is copied.
use Rattle.std.specs.Prelude.{◌≡◌, ℕ, ◌<◌, ◌≤◌, Bool, List, Option, Some, length, map, take, slice_get}
use Rattle.ae_netlist.specs.declared.cell.NetId.{NetId}
use Rattle.ae_netlist.specs.declared.cell.Port.{Port}
use Rattle.ae_netlist.specs.declared.cell.Cell.{Cell}
use Rattle.ae_netlist.specs.declared.cell.Cell.TheVariants.{Input, Const, Op, Reg, Mem, Peek}
use Rattle.ae_netlist.specs.declared.cell.SizedCell.{SizedCell}
use Rattle.ae_netlist.specs.declared.cell.Outlet.{Outlet}
use Rattle.ae_netlist.specs.Circuit.{IsAllowed, IsNet, IsWritten}
use Rattle.ae_netlist.specs.Counts.{cells_of, count_of, number_of, is_input, is_mul}
use Rattle.ae_tidy.specs.Images.{Maps, Stands}
use Rattle.ae_tidy.specs.Marks.{IsKept}
use Rattle.ae_tidy.specs.Places.{AreRising}

-- inputs and products are those of the first cells of the old netlist
pub record HasShape (old new : List SizedCell) (from : ℕ) : Type 0 where
  pub few : length new ≤ from
  pub inputs : cells_of is_input new ≡ cells_of is_input (take from old)
  pub first : (k : ℕ) → k ≤ from → number_of is_input old k ≡ k → take k new ≡ take k old
  pub muls : count_of is_mul new ≡ count_of is_mul (take from old)

pub record IsMapped (table : List (Option NetId)) (n : ℕ) : Type 0 where
  pub net : ℕ
  pub maps : Maps table n net

-- the first old cells are copied where they are kept, and the late cells below `done` are connected; `made` tells for
-- each new cell the old one that it was made of
pub record IsCopied (old : List SizedCell) (keep : List Bool) (new : List SizedCell) (table : List (Option NetId))
    (made : List NetId) (from done : ℕ) : Type 0 where
  pub long : length table ≡ from
  pub all_made : length made ≡ length new
  pub shape : HasShape old new from
  pub each : (n m : ℕ) → Maps table n m → Stands old new table made done n m
  pub source : (m : ℕ) (k : NetId) → slice_get made m ≡ Some k → Maps table k.0 m
  pub kept : (n : ℕ) → n < from → IsKept keep n → IsMapped table n
  pub only : (n m : ℕ) → Maps table n m → IsKept keep n
  pub rising : AreRising made

-- a memory has words, and not too many
abbrev pub HasDepth : Cell → Type 0
HasDepth (Input port) = Unit {0}
HasDepth (Const k) = Unit {0}
HasDepth (Op op args) = Unit {0}
HasDepth (Reg next) = Unit {0}
HasDepth (Mem depth at next enable) = (1 ≤ depth) × (depth ≤ 65536)
HasDepth (Peek mem at) = Unit {0}

-- a cell that may be added; a register and a memory may name any nets that are there
abbrev pub MayFollow : List SizedCell → ℕ → Cell → Type 0
MayFollow cells width (Reg next) = IsNet cells next.0 width
MayFollow cells width (Mem depth at next enable) =
    (1 ≤ depth) × (depth ≤ 65536) × IsWritten cells width depth at.0 next.0 enable.0
MayFollow cells width (Input port) = IsAllowed cells width (Input port)
MayFollow cells width (Const k) = IsAllowed cells width (Const k)
MayFollow cells width (Op op args) = IsAllowed cells width (Op op args)
MayFollow cells width (Peek mem at) = IsAllowed cells width (Peek mem at)

-- the outputs so far show the nets in the places of those that the old ones show
abbrev pub wanted : List (Option NetId) → List Outlet → List (Port × Option (Option NetId))
wanted table outlets = map (λ (o : Outlet). (o.port, slice_get table o.net.0)) outlets

abbrev pub present : List Outlet → List (Port × Option (Option NetId))
present outlets = map (λ (o : Outlet). (o.port, Some (Some o.net))) outlets
