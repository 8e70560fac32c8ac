-- When a module is correct for a program: its ports, its clock, and the values that its outputs hold, block after block, by
-- the space-time types of Durst et al. (PLDI 2020).
use Rattle.std.specs.Prelude.{◌≡◌, ℕ, zero, suc, ◌+◌, ◌*◌, ◌≤◌, Bool, true, false, ◌||◌, List, [], ◌∷◌, ◌++◌, length, map, filter, unwrap_or, slice_get, Some, codes}
use Rattle.ae_word.specs.AtomTree.{WordKind, atom_kinds}
use Rattle.ae_seqtype.specs.ValueTree.{ValueTree, flat}
use Rattle.ae_sttype.specs.StTree.{StTree, lanes, element_atom, element_words}
use Rattle.ae_sttype.specs.Slots.{slots}
use Rattle.ae_sttype.specs.Holds.{Holds}
use Rattle.ae_seq.specs.ProgramTree.{ProgramTree}
use Rattle.ae_seq.specs.Meaning.{at, mean}
use Rattle.ae_rewrite.specs.Interface.{AreValues, HaveLayouts, parameter_types}
use Rattle.ae_netlist.specs.declared.cell.Port.TheVariants.{In, Out}
use Rattle.ae_vmodule.specs.ModuleTree.{NetTree, ModuleTree}
use Rattle.ae_judge.specs.Names.{is_input_kind, is_output_kind, clock_name}
use Rattle.ae_runs.specs.Values.{ModuleClock}
use Rattle.ae_runs.specs.Runs.{clock_at, IsResetRun}
use Rattle.ae_verilog.specs.NetlistModule.{port_name}

-- ---- ports

-- a port: its name, its width, and whether it is an output
pub record ModulePort : Type 0 where
  pub name : List ℕ
  pub width : ℕ
  pub is_output : Bool

abbrev pub port_of : NetTree → ModulePort
port_of x = record { name = x.name; width = x.width; is_output = is_output_kind x.kind }

abbrev pub is_port : NetTree → Bool
is_port x = is_input_kind x.kind || is_output_kind x.kind

-- the ports of a module, in the order of declaration
abbrev pub ports_of : ModuleTree → List ModulePort
ports_of m = map port_of (filter is_port m.nets)

-- a port for each word of a lane, from word number k on
abbrev pub ports_of_words : (named : ℕ → List ℕ) (is_output : Bool) (k : ℕ) → List WordKind → List ModulePort
ports_of_words named out k [] = []
ports_of_words named out k (w ∷ ws) =
    record { name = named k; width = w.width; is_output = out } ∷ ports_of_words named out (k + 1) ws

-- the ports of the first lanes, lane by lane and in it word by word
abbrev pub ports_of_lanes : (named : ℕ → ℕ → List ℕ) (is_output : Bool) → List WordKind → (lanes : ℕ) → List ModulePort
ports_of_lanes named out ws zero = []
ports_of_lanes named out ws (suc l) = ports_of_lanes named out ws l ++ ports_of_words (named l) out 0 ws

abbrev pub bundle_ports : (named : ℕ → ℕ → List ℕ) (is_output : Bool) → StTree → List ModulePort
bundle_ports named out s = ports_of_lanes named out (atom_kinds (element_atom s)) (lanes s)

-- the ports of a parameter, and those of a result among so many
abbrev pub param_ports : (param : ℕ) → StTree → List ModulePort
param_ports param = bundle_ports (λ lane word. port_name 1 (In param lane word)) false

abbrev pub result_ports : (outs result : ℕ) → StTree → List ModulePort
result_ports outs result = bundle_ports (λ lane word. port_name outs (Out result lane word)) true

-- the ports of each layout in turn, where the first has number k
abbrev pub bundles_from : (ℕ → StTree → List ModulePort) → (k : ℕ) → List StTree → List ModulePort
bundles_from bundle k [] = []
bundles_from bundle k (s ∷ ss) = bundle k s ++ bundles_from bundle (k + 1) ss

-- clock, reset, inputs and outputs
abbrev pub program_ports : (inputs outputs : List StTree) → List ModulePort
program_ports inputs outputs =
    record { name = codes "clk"; width = 1; is_output = false }
    ∷ record { name = codes "rst"; width = 1; is_output = false }
    ∷ bundles_from param_ports 0 inputs ++ bundles_from (result_ports (length outputs)) 0 outputs

-- ---- values on ports

abbrev pub name_of : ModulePort → List ℕ
name_of x = x.name

-- the word of a column of some ports, in a clock that is counted from the first without reset
abbrev pub wave : List ModuleClock → (start : ℕ) → List ModulePort → (clock column : ℕ) → ℕ
wave run start ports c column = (clock_at run (start + c)).word (unwrap_or (slice_get (map name_of ports) column) [])

-- from clock k on, the ports of each layout hold the value of its number
pub record BundlesHold (run : List ModuleClock) (start k : ℕ) (ports : ℕ → StTree → List ModulePort)
    (layouts : List StTree) (values : List ValueTree) : Type 0 where
  pub each : (q : ℕ) (s : StTree) → slice_get layouts q ≡ Some s
      → Holds (wave run start (ports q s)) k (element_words s) (slots s) (flat (at values q))

-- in a reset run, where every block of arguments stands on the inputs, one behind the other without a gap, the program's
-- results of each block stand on the outputs, all of them so many clocks later
pub record KeepsBlocks (m : ModuleTree) (p : ProgramTree) (slowdown latency : ℕ)
    (inputs outputs : List StTree) : Type 0 where
  pub results : (run : List ModuleClock) (start : ℕ) (blocks : List (List ValueTree)) → IsResetRun m run start
      → start + (latency + length blocks * slowdown) ≤ length run
      → ((b : ℕ) (block : List ValueTree) → slice_get blocks b ≡ Some block → AreValues (parameter_types p) block
      × BundlesHold run start (b * slowdown) param_ports inputs block)
      → (b : ℕ) (block : List ValueTree) → slice_get blocks b ≡ Some block
      → BundlesHold run start (latency + b * slowdown) (result_ports (length outputs)) outputs (mean p block)

-- the module is correct for the program at a slowdown and with a latency
pub record IsCorrect (m : ModuleTree) (p : ProgramTree) (slowdown latency : ℕ) : Type 0 where
  pub named : m.name ≡ codes "aeth"
  pub inputs : List StTree
  pub outputs : List StTree
  pub layouts : HaveLayouts p slowdown inputs outputs
  pub ports : ports_of m ≡ program_ports inputs outputs
  pub clocked : clock_name m ≡ Some (codes "clk")
  pub keeps : KeepsBlocks m p slowdown latency inputs outputs
