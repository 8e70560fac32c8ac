-- What the circuit of a schedule is to its programs.
use Rattle.std.specs.Prelude.{◌≡◌, ℕ, List, Some, slice_get}
use Rattle.ae_netlist.specs.Circuit.{Circuit}
use Rattle.ae_seq.specs.ProgramTree.{ProgramTree}
use Rattle.ae_eval.specs.Stack.{IsTyped}
use Rattle.ae_rewrite.specs.Interface.{HaveLayouts}
use Rattle.ae_rewrite.specs.Scheduled.{IsSchedule}
use Rattle.ae_rewrite.specs.Sound.{IsSound}
use Rattle.ae_rewrite.specs.StProgramTree.{StFuncTree}
use Rattle.ae_tidy.specs.Needed.{IsLean}
use Rattle.ae_ports.specs.CircuitFor.{IsCircuitFor}
use Rattle.ae_lower.specs.Circuits.{IsCircuitOf, last_of, results_of}
use Rattle.ae_lower.specs.Lowering.{instance_costs}

-- it is one for each program with this schedule, by the layouts and the costs of the program function's instance
abbrev pub CircuitsAreFor : Type 0
CircuitsAreFor =
    (p : ProgramTree) (slowdown : ℕ) (instances : List StFuncTree) (s : StFuncTree) (n : Circuit) → IsTyped p
    → IsSchedule p slowdown instances → IsSound instances
    → slice_get instances (last_of instances) ≡ Some s → IsCircuitOf instances s n → IsLean n
    → HaveLayouts p slowdown s.ins (results_of s)
    × IsCircuitFor p slowdown (instance_costs instances (last_of instances)) s.ins (results_of s) n
