-- The schedule and the costs of a text's program under a slowdown, and why there are none.
use Rattle.std.specs.Prelude.{◌≡◌, ℕ, ◌<◌, ◌≤◌, false, None, Option, Some, List, [], take, slice_get, ◌⊎◌}
use Rattle.ae_seq.specs.ProgramTree.{FuncTree, ProgramTree}
use Rattle.ae_eval.specs.Stack.{IsTyped as IsTypedTree}
use Rattle.ae_rewrite.specs.FailingLine.{failing_line}
use Rattle.ae_rewrite.specs.Interface.{main_of}
use Rattle.ae_rewrite.specs.Scheduled.{IsSchedule}
use Rattle.ae_rewrite.specs.Sound.{IsSound}
use Rattle.ae_rewrite.specs.StProgramTree.{StFuncTree}
use Rattle.ae_delay.specs.declared.own.OwnCosts.{OwnCosts}
use Rattle.ae_delay.specs.Costs.{LineLoad, all_costs, node_timings}
use Rattle.ae_delay.specs.Timings.{AreTimes}
use Rattle.ae_trace.specs.Traces.{is_movement}
use Rattle.ae_fuse.specs.Costing.{Costing, costing, costing_over}
use Rattle.ae_fuse.specs.Fused.{IsFusedOf, costs_in}
use Rattle.ae_lower.specs.Circuits.{last_of}
use Rattle.ae_compile.specs.declared.costs.Costs.{Costs}
use Rattle.ae_compile.specs.declared.costs.Costs.TheVariants.{Plain, Fused}
use Rattle.ae_compile.specs.declared.faults.CompileFault.{CompileFault}
use Rattle.ae_compile.specs.declared.faults.CompileFault.TheVariants.{Memory, NoSchedule, TooLarge}
use Rattle.ae_compile.specs.Programs.{IsTypedText, IsTypedFault}

-- the greatest load of a circuit
abbrev pub load_limit : ℕ
load_limit = 100000

-- what the program function costs and when its items arrive, by its instance and the costs of those before it
abbrev pub costing_by : ProgramTree → (known : List OwnCosts) → Option FuncTree → Option StFuncTree → Costing
costing_by p known (Some f) (Some s) = costing p f s (node_timings known s)
costing_by p known _ _ =
    record { costs = record { latency = 0; load = 0; muls = 0; mems = 0 }; arrivals = []; lines = [] }

abbrev pub main_costing : ProgramTree → List StFuncTree → Costing
main_costing p instances =
    costing_by p (all_costs (take (last_of instances) instances)) (slice_get p.funcs (main_of p))
    (slice_get instances (last_of instances))

abbrev pub main_costs : ProgramTree → List StFuncTree → OwnCosts
main_costs p instances = (main_costing p instances).costs

-- the first line at which the sum of its loads passes a limit
abbrev pub costs_over : (limit : ℕ) → ProgramTree → List StFuncTree → Option LineLoad
costs_over limit p instances = costing_over limit (main_costing p instances)

-- the text is this program, and these are the instances of its schedule
pub record IsScheduled (part : List ℕ) (slowdown : ℕ) (p : ProgramTree) (instances : List StFuncTree) : Type 0 where
  pub typed : IsTypedText part p
  pub schedule : IsSchedule p slowdown instances

-- the text is this program, these are the instances of its schedule, and their load is within the limit
pub record IsCosted (limit : ℕ) (part : List ℕ) (slowdown : ℕ) (p : ProgramTree)
    (instances : List StFuncTree) : Type 0 where
  pub typed : IsTypedText part p
  pub schedule : IsSchedule p slowdown instances
  pub within : costs_over limit p instances ≡ None

-- the text is a program without a schedule: the line has no layout
pub record HasNoSchedule (part : List ℕ) (slowdown line : ℕ) : Type 0 where
  pub program : ProgramTree
  pub typed : IsTypedText part program
  pub failing : failing_line program slowdown ≡ Some line

-- the sum of its loads passes the limit at the line
pub record HasLargeLoad (limit : ℕ) (part : List ℕ) (slowdown line : ℕ) : Type 0 where
  pub program : ProgramTree
  pub typed : IsTypedText part program
  pub instances : List StFuncTree
  pub schedule : IsSchedule program slowdown instances
  pub load : ℕ
  pub large : costs_over limit program instances ≡ Some (record { line = line; load = load })

-- the text is a program that has a schedule, whose load is within the limit; all its schedules are alike
pub record HasCosts (limit : ℕ) (part : List ℕ) (slowdown : ℕ) : Type 0 where
  pub program : ProgramTree
  pub instances : List StFuncTree
  pub costed : IsCosted limit part slowdown program instances

-- there is a program function, and an instance of it
pub record HasParts (p : ProgramTree) (instances : List StFuncTree) : Type 0 where
  pub func : FuncTree
  pub there : slice_get p.funcs (main_of p) ≡ Some func
  pub instance : StFuncTree
  pub last : slice_get instances (last_of instances) ≡ Some instance

-- the loads pass a limit at the line; want of memory says nothing
abbrev pub IsLargeAt : Option LineLoad → CompileFault → Type 0
IsLargeAt over (TooLarge line) = (load : ℕ) × (over ≡ Some (record { line = line; load = load }))
IsLargeAt over Memory = Unit {0}
IsLargeAt over _ = ⊥

-- a line is refused as in any program, or for its layout, or for the load up to it; want of memory says nothing
abbrev pub IsCostFault : (limit : ℕ) (part : List ℕ) (slowdown : ℕ) → CompileFault → Type 0
IsCostFault limit part slowdown (NoSchedule line) = HasNoSchedule part slowdown line
IsCostFault limit part slowdown (TooLarge line) =
    IsTypedFault part (TooLarge line) ⊎ HasLargeLoad limit part slowdown line
IsCostFault limit part slowdown fault = IsTypedFault part fault

-- the costs that were found: the times of a schedule, or the moves of a program that only moves words
abbrev pub AreCosts : ProgramTree → List StFuncTree → Costs → Type 0
AreCosts p instances (Plain times) = (is_movement p ≡ false) × AreTimes instances times
AreCosts p instances (Fused moves) = IsFusedOf p instances moves

abbrev pub whole_costs : Costs → OwnCosts
whole_costs (Plain times) = times.costs
whole_costs (Fused moves) = costs_in moves

-- when the items of the program function arrive; of a schedule, by the number of its last instance
abbrev pub arrivals_in : (last : ℕ) → Costs → Option (List ℕ)
arrivals_in last (Plain times) = slice_get times.arrivals last
arrivals_in last (Fused moves) = Some moves.arrivals

-- a typed program with the schedule under its slowdown, and the costs of that, within a limit of load
pub record IsKnown (limit : ℕ) (p : ProgramTree) (slowdown : ℕ) (instances : List StFuncTree)
    (costs : Costs) : Type 0 where
  pub some : 0 < slowdown
  pub most : slowdown ≤ 4096
  pub typed : IsTypedTree p
  pub schedule : IsSchedule p slowdown instances
  pub sound : IsSound instances
  pub costs_are : AreCosts p instances costs
  pub light : (main_costs p instances).load ≤ limit
