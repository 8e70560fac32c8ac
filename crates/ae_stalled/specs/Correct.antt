-- When a module with a stall input is correct for a program: only the clocks count in which the input is 1.
use Rattle.std.specs.Prelude.{◌≡◌, ℕ, ◌+◌, ◌*◌, ◌<◌, ◌≤◌, ◌==◌, false, List, ◌∷◌, ◌++◌, length, Some, slice_get, codes}
use Rattle.std.specs.List.{filter}
use Rattle.ae_seqtype.specs.ValueTree.{ValueTree}
use Rattle.ae_sttype.specs.StTree.{StTree}
use Rattle.ae_seq.specs.ProgramTree.{ProgramTree}
use Rattle.ae_seq.specs.Meaning.{mean}
use Rattle.ae_rewrite.specs.Interface.{AreValues, HaveLayouts, parameter_types}
use Rattle.ae_vmodule.specs.ModuleTree.{ModuleTree}
use Rattle.ae_judge.specs.Names.{clock_name}
use Rattle.ae_runs.specs.Values.{ModuleClock}
use Rattle.ae_runs.specs.Runs.{clock_at, IsModuleRun}
use Rattle.ae_correct.specs.Correct.{BundlesHold, ModulePort, param_ports, result_ports, bundles_from, ports_of}

-- the name of the enable
abbrev pub enable_name : List ℕ
enable_name = codes "en"

-- the clocks in which the enable is 1
unfoldable pub enabled_clocks : List ModuleClock → List ModuleClock
enabled_clocks run = filter (λ (c : ModuleClock). c.word enable_name == 1) run

-- among these clocks `rst` is 1 in the first, at least one, and 0 in all others
pub record AreReset (clocks : List ModuleClock) (start : ℕ) : Type 0 where
  pub some : 1 ≤ start
  pub high : (t : ℕ) → t < start → t < length clocks → (clock_at clocks t).word (codes "rst") ≡ 1
  pub low : (t : ℕ) → start ≤ t → t < length clocks → (clock_at clocks t).word (codes "rst") ≡ 0

-- in a run whose enabled clocks are reset, where every block of arguments stands on the inputs in them, one behind the other
-- without a gap, the program's results of each block stand on the outputs in them, all of them so many enabled clocks later
pub record KeepsEnabledBlocks (m : ModuleTree) (p : ProgramTree) (slowdown latency : ℕ)
    (inputs outputs : List StTree) : Type 0 where
  pub results : (run : List ModuleClock) (start : ℕ) (blocks : List (List ValueTree)) → IsModuleRun m run
      → AreReset (enabled_clocks run) start → start + (latency + length blocks * slowdown) ≤ length (enabled_clocks run)
      → ((b : ℕ) (block : List ValueTree) → slice_get blocks b ≡ Some block → AreValues (parameter_types p) block
      × BundlesHold (enabled_clocks run) start (b * slowdown) param_ports inputs block)
      → (b : ℕ) (block : List ValueTree) → slice_get blocks b ≡ Some block
      → BundlesHold (enabled_clocks run) start (latency + b * slowdown) (result_ports (length outputs)) outputs
      (mean p block)

-- clock, reset, enable, inputs and outputs
abbrev pub stalled_ports : (inputs outputs : List StTree) → List ModulePort
stalled_ports inputs outputs =
    record { name = codes "clk"; width = 1; is_output = false }
    ∷ record { name = codes "rst"; width = 1; is_output = false }
    ∷ record { name = enable_name; width = 1; is_output = false }
    ∷ bundles_from param_ports 0 inputs ++ bundles_from (result_ports (length outputs)) 0 outputs

-- the module is correct for the program at a slowdown and with a latency
pub record IsCorrectStalled (m : ModuleTree) (p : ProgramTree) (slowdown latency : ℕ) : Type 0 where
  pub named : m.name ≡ codes "aeth"
  pub inputs : List StTree
  pub outputs : List StTree
  pub layouts : HaveLayouts p slowdown inputs outputs
  pub ports : ports_of m ≡ stalled_ports inputs outputs
  pub clocked : clock_name m ≡ Some (codes "clk")
  pub keeps : KeepsEnabledBlocks m p slowdown latency inputs outputs
