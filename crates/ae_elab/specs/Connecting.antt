-- A netlist whose registers and memories are connected.
use Rattle.std.specs.Prelude.{ℕ, ◌≡◌, Option, map}
use Rattle.ae_netlist.specs.declared.cell.SizedCell.{SizedCell}
use Rattle.ae_netlist.specs.Circuit.{Circuit, IsMemory}
use Rattle.ae_netlist.specs.Runs.{Carries}
use Rattle.ae_runs.specs.SameRuns.{cell_depth, input_cells, state_cells}

-- only cells before a number have changed: each register and each memory is still one, of its width and depth
pub record Connects (from : ℕ) (old new : Circuit) : Type 0 where
  pub carries : Carries from old.cells new.cells
  pub memories : (n width depth : ℕ) → IsMemory old.cells n width depth → IsMemory new.cells n width depth
  pub inputs : input_cells new.cells ≡ input_cells old.cells
  pub states : map {B = ℕ × ℕ × Option ℕ} (λ (x : ℕ × SizedCell). (x.0, x.1.width, cell_depth x.1.cell))
      (state_cells new.cells) ≡ map {B = ℕ × ℕ × Option ℕ}
      (λ (x : ℕ × SizedCell). (x.0, x.1.width, cell_depth x.1.cell)) (state_cells old.cells)
  pub limit : new.limit ≡ old.limit
  pub outlets : new.outlets ≡ old.outlets
