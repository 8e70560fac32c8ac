-- What lowering adds to a netlist.
use Rattle.std.specs.Prelude.{◌≡◌, ℕ, ◌+◌, ◌*◌, ◌≤◌, List, length}
use Rattle.ae_netlist.specs.declared.cell.NetId.{NetId}
use Rattle.ae_netlist.specs.Circuit.{Circuit}
use Rattle.ae_netlist.specs.Counts.{AreWhole, count_of, is_memory, is_mul}
use Rattle.ae_gates.specs.Cells.{Grows}
use Rattle.ae_ops.specs.Waves.{AreNets}
use Rattle.ae_ops.specs.Blocks.{KeepsLaw, Part, stream_widths}

-- a netlist that has grown by at most 16 cells for each unit of load
pub record GrowsBy (old new : Circuit) (load : ℕ) : Type 0 where
  pub grows : Grows old new
  pub cells : length new.cells ≤ length old.cells + 16 * load

-- by exactly so many products and at most so many memories; memories stay whole
pub record AddsMulsAndMemories (old new : Circuit) (products most : ℕ) : Type 0 where
  pub muls : count_of is_mul new.cells ≡ count_of is_mul old.cells + products
  pub memories : count_of is_memory new.cells ≤ count_of is_memory old.cells + most
  pub whole : AreWhole old.cells → AreWhole new.cells

-- by exactly so many products, and at most so many memories beside those that were left and are not any more
pub record Spends (old new : Circuit) (products most before left : ℕ) : Type 0 where
  pub muls : count_of is_mul new.cells ≡ count_of is_mul old.cells + products
  pub memories : count_of is_memory new.cells + left ≤ count_of is_memory old.cells + before + most
  pub whole : AreWhole old.cells → AreWhole new.cells

-- nets that keep the law of a part for arguments whose block 0 begins in clock `at` after reset
pub record IsBuilt (new : Circuit) (rst at : ℕ) (p : Part) (ins : List (List NetId)) (out : List NetId) : Type 0 where
  pub nets : AreNets new.cells (stream_widths p.out) out
  pub law : KeepsLaw new.cells rst at p ins out
