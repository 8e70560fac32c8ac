-- The names that have their nets before any equation is looked at: inputs but the clock, registers and memories.
use Rattle.std.specs.Prelude.{ℕ, ◌≡◌, ◌<◌, ◌≤◌, Bool, true, false, not, ◌&&◌, ◌||◌, if◌then◌else◌, List, [], ◌∷◌, ◌++◌, length, map, Option, Some, None, slice_get}
use Rattle.ae_netlist.specs.declared.cell.NetId.{NetId}
use Rattle.ae_netlist.specs.declared.cell.Port.TheVariants.{Plain}
use Rattle.ae_netlist.specs.declared.cell.Cell.TheVariants.{Input as InputCell}
use Rattle.ae_netlist.specs.declared.cell.SizedCell.{SizedCell}
use Rattle.ae_netlist.specs.declared.cell.Outlet.{Outlet}
use Rattle.ae_netlist.specs.Circuit.{Circuit, new_memory, new_register}
use Rattle.ae_vmodule.specs.declared.module.NetKind.{NetKind}
use Rattle.ae_vmodule.specs.declared.module.NetKind.TheVariants.{Input, Wire, OutWire, Reg, OutReg, Memory}
use Rattle.ae_vmodule.specs.ModuleTree.{NetTree, ModuleTree}
use Rattle.ae_judge.specs.Names.{is_clock, is_input_kind, is_memory_kind, is_output_kind, is_register_kind}
use Rattle.ae_judge.specs.Faults.{NetAt}
use Rattle.ae_runs.specs.SameRuns.{cell_depth, input_cells, kind_depth, state_cells}
use Rattle.ae_runs.specs.Named.{StandsFor}

-- an input but the clock, and a register or a memory
abbrev pub is_data_input : ModuleTree → NetTree → Bool
is_data_input m x = is_input_kind x.kind && not (is_clock m x.name)

abbrev pub is_state : NetTree → Bool
is_state x = is_register_kind x.kind || is_memory_kind x.kind

abbrev pub is_given : ModuleTree → NetTree → Bool
is_given m x = is_data_input m x || is_state x

-- the cell of such a name, where its own number and that of an input are these; any other name has none
abbrev pub given_cell : NetKind → (is_clock : Bool) → (own port width : ℕ) → Option SizedCell
given_cell Input true own port width = None
given_cell Input false own port width = Some (record { width = width; cell = InputCell (Plain port) })
given_cell Wire is_clock own port width = None
given_cell OutWire is_clock own port width = None
given_cell Reg is_clock own port width = Some (new_register own width)
given_cell OutReg is_clock own port width = Some (new_register own width)
given_cell (Memory depth) is_clock own port width = Some (new_memory own width depth)

-- a netlist with one cell more, which is the net; or as it was, and no net
abbrev pub AddsCell : Option SizedCell → (old new : Circuit) → Option NetId → Type 0
AddsCell None old new net = (net ≡ None) × (new ≡ old)
AddsCell (Some cell) old new net =
    (net ≡ Some (record { 0 = length old.cells })) × (new ≡ record old { cells = old.cells ++ cell ∷ [] })

abbrev pub number_of : Option NetId → ℕ
number_of None = 0
number_of (Some net) = net.0

-- of the names that pass, each with the number of its net
abbrev pub with_nets : {Z : Type 0} → (NetTree → Bool) → (ℕ → NetTree → Z) → List NetTree → List (Option NetId) → List Z
with_nets test f [] nets = []
with_nets test f (x ∷ xs) [] = []
with_nets test f (x ∷ xs) (net ∷ nets) =
    if test x then f (number_of net) x ∷ with_nets test f xs nets else with_nets test f xs nets

-- the name at this place has a net
abbrev pub HasNet : List (Option NetId) → ℕ → Type 0
HasNet nets p = (y : NetId) × (slice_get nets p ≡ Some (Some y))

abbrev pub is_output : NetTree → Bool
is_output x = is_output_kind x.kind

-- the inputs and the outputs of a netlist are plain ports, numbered from 0
abbrev pub ArePlainInputs : List SizedCell → Type 0
ArePlainInputs cells =
    (k : ℕ) (x : ℕ × SizedCell) → slice_get (input_cells cells) k ≡ Some x → x.1.cell ≡ InputCell (Plain k)

-- with the net of a name behind the others, where it is an output
abbrev pub shown : Bool → Option NetId → List Outlet → List Outlet
shown false net outlets = outlets
shown true None outlets = outlets
shown true (Some y) outlets = outlets ++ (record { port = Plain (length outlets); net = y }) ∷ []

abbrev pub ArePlainOutlets : List Outlet → Type 0
ArePlainOutlets outlets = (k : ℕ) (o : Outlet) → slice_get outlets k ≡ Some o → o.port ≡ Plain k

-- a register or a memory that is not connected yet
abbrev pub IsUnconnected : NetKind → List SizedCell → (net width : ℕ) → Type 0
IsUnconnected Input cells net width = Unit {0}
IsUnconnected Wire cells net width = Unit {0}
IsUnconnected OutWire cells net width = Unit {0}
IsUnconnected Reg cells net width = slice_get cells net ≡ Some (new_register net width)
IsUnconnected OutReg cells net width = slice_get cells net ≡ Some (new_register net width)
IsUnconnected (Memory depth) cells net width = slice_get cells net ≡ Some (new_memory net width depth)

-- the registers and memories of a module are cells of their own before a number, and not connected yet
pub record AreUnconnected (m : ModuleTree) (from : ℕ) (nets : List (Option NetId))
    (cells : List SizedCell) : Type 0 where
  pub each : (p : ℕ) (x : NetTree) (y : NetId) → NetAt m p x → slice_get nets p ≡ Some (Some y)
      → IsUnconnected x.kind cells y.0 x.width
  pub early : (p : ℕ) (x : NetTree) (y : NetId) → NetAt m p x → is_state x ≡ true → slice_get nets p ≡ Some (Some y)
      → y.0 < from
  pub apart : (p q : ℕ) (x z : NetTree) (y : NetId) → NetAt m p x → NetAt m q z → is_state x ≡ true → is_state z ≡ true
      → slice_get nets p ≡ Some (Some y) → slice_get nets q ≡ Some (Some y) → p ≡ q

-- these names of a module have their nets in a netlist that has nothing else; any other has none yet
pub record AreDeclared (m : ModuleTree) (ns : List NetTree) (nets : List (Option NetId))
    (cells : List SizedCell) : Type 0 where
  pub long : length nets ≡ length ns
  pub stand : (p : ℕ) (x : NetTree) (y : NetId) → slice_get ns p ≡ Some x → slice_get nets p ≡ Some (Some y)
      → StandsFor x.kind cells y.0 x.width
  pub unconnected : (p : ℕ) (x : NetTree) (y : NetId) → slice_get ns p ≡ Some x → slice_get nets p ≡ Some (Some y)
      → IsUnconnected x.kind cells y.0 x.width
  pub within : (p : ℕ) (y : NetId) → slice_get nets p ≡ Some (Some y) → y.0 < length cells
  pub apart : (p q : ℕ) (y : NetId) → slice_get nets p ≡ Some (Some y) → slice_get nets q ≡ Some (Some y) → p ≡ q
  pub given : (p : ℕ) (x : NetTree) → slice_get ns p ≡ Some x → is_given m x ≡ true → HasNet nets p
  pub others : (p : ℕ) (x : NetTree) → slice_get ns p ≡ Some x → is_given m x ≡ false → slice_get nets p ≡ Some None
  pub inputs : map {B = ℕ × ℕ} (λ (x : ℕ × SizedCell). (x.0, x.1.width)) (input_cells cells) ≡ with_nets {Z = ℕ × ℕ}
      (is_data_input m) (λ n x. (n, x.width)) ns nets
  pub states : map {B = ℕ × ℕ × Option ℕ} (λ (x : ℕ × SizedCell). (x.0, x.1.width, cell_depth x.1.cell))
      (state_cells cells) ≡ with_nets {Z = ℕ × ℕ × Option ℕ} is_state (λ n x. (n, x.width, kind_depth x.kind)) ns nets
  pub plain : ArePlainInputs cells
  pub few : length cells ≤ length ns

pub record HasPlainPorts (n : Circuit) : Type 0 where
  pub inputs : ArePlainInputs n.cells
  pub outlets : ArePlainOutlets n.outlets
