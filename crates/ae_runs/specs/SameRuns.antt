-- When a netlist and a module have the same runs.
use Rattle.std.specs.Prelude.{ℕ, ◌≡◌, ◌<◌, Bool, true, false, not, ◌&&◌, ◌||◌, List, [], ◌∷◌, length, map, filter, Option, Some, None}
use Rattle.std.specs.List.{enumerate_from}
use Rattle.ae_netlist.specs.declared.cell.Cell.{Cell}
use Rattle.ae_netlist.specs.declared.cell.Cell.TheVariants.{Input, Const, Op, Reg, Mem, Peek}
use Rattle.ae_netlist.specs.declared.cell.SizedCell.{SizedCell}
use Rattle.ae_netlist.specs.declared.cell.Outlet.{Outlet}
use Rattle.ae_netlist.specs.Circuit as circuit
use Rattle.ae_netlist.specs.Runs as netlist
use Rattle.ae_vmodule.specs.declared.module.NetKind.{NetKind}
use Rattle.ae_vmodule.specs.declared.module.NetKind.TheVariants.{Input as InputName, Wire, OutWire, Reg as RegName, OutReg, Memory}
use Rattle.ae_vmodule.specs.ModuleTree.{NetTree, ModuleTree}
use Rattle.ae_judge.specs.Names.{is_input_kind, is_register_kind, is_memory_kind, is_output_kind, is_clock}
use Rattle.ae_runs.specs.Values.{ModuleClock}
use Rattle.ae_runs.specs.Runs.{clock_at, IsModuleRun}

-- the inputs of a module but its clock, its outputs, and its registers and memories, each in the order of declaration
abbrev pub inputs_of : ModuleTree → List NetTree
inputs_of m = filter (λ (x : NetTree). is_input_kind x.kind && not (is_clock m x.name)) m.nets

abbrev pub outputs_of : ModuleTree → List NetTree
outputs_of m = filter (λ (x : NetTree). is_output_kind x.kind) m.nets

abbrev pub states_of : ModuleTree → List NetTree
states_of m = filter (λ (x : NetTree). is_register_kind x.kind || is_memory_kind x.kind) m.nets

abbrev pub is_input_cell : Cell → Bool
is_input_cell (Input port) = true
is_input_cell (Const k) = false
is_input_cell (Op op args) = false
is_input_cell (Reg next) = false
is_input_cell (Mem depth at next enable) = false
is_input_cell (Peek mem at) = false

abbrev pub is_state_cell : Cell → Bool
is_state_cell (Input port) = false
is_state_cell (Const k) = false
is_state_cell (Op op args) = false
is_state_cell (Reg next) = true
is_state_cell (Mem depth at next enable) = true
is_state_cell (Peek mem at) = false

-- the inputs, and the registers and memories, of a netlist, in order, with their numbers
abbrev pub input_cells : List SizedCell → List (ℕ × SizedCell)
input_cells cells = filter (λ (x : ℕ × SizedCell). is_input_cell x.1.cell) (enumerate_from 0 cells)

abbrev pub state_cells : List SizedCell → List (ℕ × SizedCell)
state_cells cells = filter (λ (x : ℕ × SizedCell). is_state_cell x.1.cell) (enumerate_from 0 cells)

-- how many words a memory has; a register has no depth
abbrev pub kind_depth : NetKind → Option ℕ
kind_depth InputName = None
kind_depth Wire = None
kind_depth OutWire = None
kind_depth RegName = None
kind_depth OutReg = None
kind_depth (Memory depth) = Some depth

abbrev pub cell_depth : Cell → Option ℕ
cell_depth (Input port) = None
cell_depth (Const k) = None
cell_depth (Op op args) = None
cell_depth (Reg next) = None
cell_depth (Mem depth at next enable) = Some depth
cell_depth (Peek mem at) = None

-- the words that a register or a memory holds
abbrev pub kind_words : NetKind → (word : ℕ) → (store : List ℕ) → List ℕ
kind_words InputName word store = word ∷ []
kind_words Wire word store = word ∷ []
kind_words OutWire word store = word ∷ []
kind_words RegName word store = word ∷ []
kind_words OutReg word store = word ∷ []
kind_words (Memory depth) word store = store

abbrev pub cell_words : Cell → (word : ℕ) → (store : List ℕ) → List ℕ
cell_words (Input port) word store = word ∷ []
cell_words (Const k) word store = word ∷ []
cell_words (Op op args) word store = word ∷ []
cell_words (Reg next) word store = word ∷ []
cell_words (Mem depth at next enable) word store = store
cell_words (Peek mem at) word store = word ∷ []

-- a clock of a module: the words of its inputs, of its outputs, and those that its registers and memories hold
abbrev pub input_words : ModuleTree → ModuleClock → List ℕ
input_words m c = map (λ (x : NetTree). c.word x.name) (inputs_of m)

abbrev pub output_words : ModuleTree → ModuleClock → List ℕ
output_words m c = map (λ (x : NetTree). c.word x.name) (outputs_of m)

abbrev pub held_words : ModuleTree → ModuleClock → List (List ℕ)
held_words m c = map (λ (x : NetTree). kind_words x.kind (c.word x.name) (c.store x.name)) (states_of m)

-- the same of clock t of a netlist's run
abbrev pub net_input_words : circuit.Circuit → List netlist.Clock → ℕ → List ℕ
net_input_words n run t = map (λ (x : ℕ × SizedCell). netlist.word_at run t x.0) (input_cells n.cells)

abbrev pub net_output_words : circuit.Circuit → List netlist.Clock → ℕ → List ℕ
net_output_words n run t = map (λ (o : Outlet). netlist.word_at run t o.net.0) n.outlets

abbrev pub net_held_words : circuit.Circuit → List netlist.Clock → ℕ → List (List ℕ)
net_held_words n run t =
    map (λ (x : ℕ × SizedCell). cell_words x.1.cell (netlist.word_at run t x.0) (netlist.store_at run t x.0))
    (state_cells n.cells)

-- two runs with equal inputs and equal first words
pub record BeginAlike (m : ModuleTree) (n : circuit.Circuit) (run : List ModuleClock)
    (other : List netlist.Clock) : Type 0 where
  pub long : length run ≡ length other
  pub inputs : (t : ℕ) → t < length run → input_words m (clock_at run t) ≡ net_input_words n other t
  pub first : 0 < length run → held_words m (clock_at run 0) ≡ net_held_words n other 0

-- two runs with equal outputs in every clock
pub record HaveEqualOutputs (m : ModuleTree) (n : circuit.Circuit) (run : List ModuleClock)
    (other : List netlist.Clock) : Type 0 where
  pub outputs : (t : ℕ) → t < length run → output_words m (clock_at run t) ≡ net_output_words n other t

-- inputs, outputs, registers and memories correspond in order; equal inputs and equal first words give equal outputs; and
-- each run of the one has such a run of the other
pub record HasSameRuns (m : ModuleTree) (n : circuit.Circuit) : Type 0 where
  pub inputs : map (λ (x : NetTree). x.width) (inputs_of m) ≡ map (λ (x : ℕ × SizedCell). x.1.width)
      (input_cells n.cells)
  pub outputs : map (λ (x : NetTree). x.width) (outputs_of m) ≡ map
      (λ (o : Outlet). circuit.width_of n.cells o.net.0) n.outlets
  pub widths : map (λ (x : NetTree). x.width) (states_of m) ≡ map (λ (x : ℕ × SizedCell). x.1.width)
      (state_cells n.cells)
  pub depths : map (λ (x : NetTree). kind_depth x.kind) (states_of m) ≡ map
      (λ (x : ℕ × SizedCell). cell_depth x.1.cell) (state_cells n.cells)
  pub equal : (run : List ModuleClock) (other : List netlist.Clock) → IsModuleRun m run → netlist.IsRun n.cells other
      → BeginAlike m n run other → HaveEqualOutputs m n run other
  pub of_module : (run : List ModuleClock) → IsModuleRun m run → (other : List netlist.Clock)
      × netlist.IsRun n.cells other × BeginAlike m n run other × HaveEqualOutputs m n run other
  pub of_netlist : (other : List netlist.Clock) → netlist.IsRun n.cells other → (run : List ModuleClock)
      × IsModuleRun m run × BeginAlike m n run other × HaveEqualOutputs m n run other
