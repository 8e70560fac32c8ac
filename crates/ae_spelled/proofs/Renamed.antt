-- What a module is called has no part in its runs, nor in whether it is well formed.
use Rattle.std.proofs.Common.{ℕ, List}
use Rattle.ae_netlist.specs.Circuit.{Circuit}
use Rattle.ae_netlist.specs.Runs as netlist
use Rattle.ae_vmodule.specs.ModuleTree.{ModuleTree}
use Rattle.ae_judge.specs.Names.{is_clock, equations}
use Rattle.ae_judge.specs.Faults.{Reaches, at_once, through, IsWellFormed}
use Rattle.ae_runs.specs.Values.{ModuleClock}
use Rattle.ae_runs.specs.Runs.{next_clock, IsStep, IsModuleRun}
use Rattle.ae_runs.specs.SameRuns.{BeginAlike, HaveEqualOutputs, HasSameRuns}
use Rattle.ae_spelled.specs.Streams.{renamed}

module _ (title : List ℕ) (m : ModuleTree) where
  abbrev called : ModuleTree
  called = renamed title m

  -- a run under the new name, and back

  step_there : (c d : ModuleClock) → IsStep m c d → IsStep called c d
  unfolding next_clock
  step_there c d h = record { steps = h.steps }

  step_back : (c d : ModuleClock) → IsStep called c d → IsStep m c d
  unfolding next_clock
  step_back c d h = record { steps = h.steps }

  run_there : (run : List ModuleClock) → IsModuleRun m run → IsModuleRun called run
  unfolding is_clock equations
  run_there run h = record {
    shaped = λ t l. record { holds = (h.shaped t l).holds };
    settles = λ t l. record { wires = (h.settles t l).wires };
    steps = λ t l. step_there _ _ (h.steps t l);
  }

  run_back : (run : List ModuleClock) → IsModuleRun called run → IsModuleRun m run
  unfolding is_clock equations
  run_back run h = record {
    shaped = λ t l. record { holds = (h.shaped t l).holds };
    settles = λ t l. record { wires = (h.settles t l).wires };
    steps = λ t l. step_back _ _ (h.steps t l);
  }

  module _ (n : Circuit) (run : List ModuleClock) (other : List netlist.Clock) where
    begin_there : BeginAlike m n run other → BeginAlike called n run other
    unfolding is_clock
    begin_there h = record { long = h.long; inputs = h.inputs; first = h.first }

    begin_back : BeginAlike called n run other → BeginAlike m n run other
    unfolding is_clock
    begin_back h = record { long = h.long; inputs = h.inputs; first = h.first }

    outputs_there : HaveEqualOutputs m n run other → HaveEqualOutputs called n run other
    outputs_there h = record { outputs = h.outputs }

  pub renamed_runs : (n : Circuit) → HasSameRuns m n → HasSameRuns called n
  unfolding is_clock
  renamed_runs n h = record {
    inputs = h.inputs;
    outputs = h.outputs;
    widths = h.widths;
    depths = h.depths;
    equal = λ run other mine theirs alike.
        outputs_there n run other (h.equal run other (run_back run mine) theirs (begin_back n run other alike));
    of_module = λ run mine.
        let found = h.of_module run (run_back run mine) in
        (found.0, found.1, begin_there n run found.0 found.2, outputs_there n run found.0 found.3);
    of_netlist = λ other theirs.
        let found = h.of_netlist other theirs in
        (found.0, run_there found.0 found.1, begin_there n found.0 other found.2, outputs_there n found.0 other found.3);
  }

  -- no fault comes by the name

  reaches_back : (a b : List ℕ) → Reaches called a b → Reaches m a b
  unfolding equations
  reaches_back a b (at_once x y h) = at_once a b h
  reaches_back a b (through x y z h rest) = through a y b h (reaches_back y b rest)

  pub renamed_formed : IsWellFormed m → IsWellFormed called
  unfolding is_clock equations
  renamed_formed h = record {
    known = h.known;
    once = h.once;
    kinds = h.kinds;
    driven = h.driven;
    widths = h.widths;
    no_loop = λ p found. h.no_loop p (found.0, found.1, reaches_back _ _ found.2);
    small = h.small;
  }
