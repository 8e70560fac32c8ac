-- What a netlist owes a module where each of its names has a net: then they have the same runs.
use Rattle.std.specs.Prelude.{ℕ, ◌≡◌, ◌+◌, ◌<◌, false, List, length, map, Option}
use Rattle.ae_netlist.specs.declared.cell.SizedCell.{SizedCell}
use Rattle.ae_netlist.specs.declared.cell.Outlet.{Outlet}
use Rattle.ae_netlist.specs.Circuit.{Circuit}
use Rattle.ae_netlist.specs.Runs as netlist
use Rattle.ae_vmodule.specs.ModuleTree.{NetTree, ModuleTree}
use Rattle.ae_judge.specs.Names.{Among, is_clock}
use Rattle.ae_runs.specs.Runs.{IsSettled, IsStep}
use Rattle.ae_judge.specs.Faults.{IsWellFormed}
use Rattle.ae_runs.specs.Named.{StandsFor, read}
use Rattle.ae_runs.specs.SameRuns.{inputs_of, outputs_of, states_of, input_cells, state_cells, kind_depth, cell_depth, HasSameRuns}

-- inputs, registers, memories and outputs correspond in order; each name but the clock has a net of its kind; and a run of
-- the netlist, read by name, meets the equations of the module
pub record Realizes (m : ModuleTree) (n : Circuit) (at : List ℕ → ℕ) : Type 0 where
  pub inputs : map {B = ℕ × ℕ} (λ (x : NetTree). (at x.name, x.width)) (inputs_of m) ≡ map {B = ℕ × ℕ}
      (λ (x : ℕ × SizedCell). (x.0, x.1.width)) (input_cells n.cells)
  pub states : map {B = ℕ × ℕ × Option ℕ} (λ (x : NetTree). (at x.name, x.width, kind_depth x.kind))
      (states_of m) ≡ map {B = ℕ × ℕ × Option ℕ} (λ (x : ℕ × SizedCell). (x.0, x.1.width, cell_depth x.1.cell))
      (state_cells n.cells)
  pub outputs : map (λ (x : NetTree). at x.name) (outputs_of m) ≡ map (λ (o : Outlet). o.net.0) n.outlets
  pub stands : (x : NetTree) → Among x m.nets → is_clock m x.name ≡ false → StandsFor x.kind n.cells (at x.name) x.width
  pub settles : (run : List netlist.Clock) → netlist.IsRun n.cells run → (t : ℕ) → t < length run
      → IsSettled m (read at run t)
  pub steps : (run : List netlist.Clock) → netlist.IsRun n.cells run → (t : ℕ) → t + 1 < length run
      → IsStep m (read at run t) (read at run (t + 1))

-- a netlist that realizes a well-formed module has its runs
abbrev pub RealizesSo : Type 0
RealizesSo =
    (m : ModuleTree) (n : Circuit) (at : List ℕ → ℕ) → IsWellFormed m → netlist.HasOneRun n.cells → Realizes m n at
    → HasSameRuns m n
