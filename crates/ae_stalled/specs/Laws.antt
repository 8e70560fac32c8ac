-- What is proved of the module of the stalled circuit for a program.
use Rattle.std.specs.Prelude.{ℕ, ◌≤◌, List, length}
use Rattle.ae_sttype.specs.StTree.{StTree}
use Rattle.ae_netlist.specs.Circuit.{Circuit}
use Rattle.ae_seq.specs.ProgramTree.{ProgramTree}
use Rattle.ae_delay.specs.declared.own.OwnCosts.{OwnCosts}
use Rattle.ae_ports.specs.CircuitFor.{IsCircuitFor}
use Rattle.ae_runs.specs.SameRuns.{HasSameRuns}
use Rattle.ae_verilog.specs.NetlistModule.{netlist_module}
use Rattle.ae_verilog.specs.Written.{IsWritableNetlist}
use Rattle.ae_correct.specs.Laws.{IsLaidOut}
use Rattle.ae_stall.specs.Stalled.{IsStalled}
use Rattle.ae_stalled.specs.Correct.{IsCorrectStalled}

-- the greatest load of a circuit that is stalled
abbrev pub stall_limit : ℕ
stall_limit = 50000

-- a stalled circuit for a program, within the limit of load, can be written as a module
abbrev pub StalledCircuitsAreWritable : Type 0
StalledCircuitsAreWritable =
    (p : ProgramTree) (slowdown : ℕ) (costs : OwnCosts) (ins outs : List StTree) (n stalled : Circuit)
    → IsLaidOut p slowdown ins outs → costs.load ≤ stall_limit → IsCircuitFor p slowdown costs ins outs n
    → IsStalled n stalled → IsWritableNetlist stalled.cells stalled.outlets (length outs)

-- the module that it is written as, whatever lines its names tell, where the modules of both circuits have their runs, is
-- correct for the program in the clocks in which the enable is 1, with the latency of the costs
abbrev pub StalledCircuitsAreCorrect : Type 0
StalledCircuitsAreCorrect =
    (lines : ℕ → ℕ) (p : ProgramTree) (slowdown : ℕ) (costs : OwnCosts) (ins outs : List StTree) (n stalled : Circuit)
    → IsLaidOut p slowdown ins outs → IsCircuitFor p slowdown costs ins outs n → IsStalled n stalled
    → HasSameRuns (netlist_module lines n.cells n.outlets (length outs)) n
    → HasSameRuns (netlist_module lines stalled.cells stalled.outlets (length outs)) stalled
    → IsCorrectStalled (netlist_module lines stalled.cells stalled.outlets (length outs)) p slowdown costs.latency
