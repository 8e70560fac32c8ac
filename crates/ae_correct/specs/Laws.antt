-- What is proved of the module of a circuit for a program.
use Rattle.std.specs.Prelude.{◌≡◌, ℕ, ◌+◌, ◌<◌, ◌≤◌, List, length, map, Some, slice_get}
use Rattle.std.specs.List.{All}
use Rattle.ae_sttype.specs.StTree.{StTree}
use Rattle.ae_netlist.specs.Circuit.{Circuit}
use Rattle.ae_netlist.specs.Rows.{AreFirsts, AreInputs, HasOneRunWith, IsRunWith, filled}
use Rattle.ae_netlist.specs.Runs.{Clock}
use Rattle.ae_vmodule.specs.ModuleTree.{ModuleTree}
use Rattle.ae_seq.specs.ProgramTree.{ProgramTree}
use Rattle.ae_eval.specs.Stack.{IsTyped}
use Rattle.ae_eval.specs.Lines.{input_types}
use Rattle.ae_seqtype.specs.ValueTree.{ValueTree, flat}
use Rattle.ae_rewrite.specs.Interface.{AreValues, HaveLayouts}
use Rattle.ae_delay.specs.declared.own.OwnCosts.{OwnCosts}
use Rattle.ae_ports.specs.CircuitFor.{IsCircuitFor}
use Rattle.ae_runs.specs.Runs.{clock_at}
use Rattle.ae_runs.specs.SameRuns.{HasSameRuns, input_words, output_words}
use Rattle.ae_runs.specs.Values.{ModuleClock}
use Rattle.ae_verilog.specs.NetlistModule.{netlist_module}
use Rattle.ae_verilog.specs.Written.{IsWritableNetlist}
use Rattle.ae_play.specs.Fed.{clock_row, fed_rows}
use Rattle.ae_play.specs.Lines.{clock_count, shown_words}
use Rattle.ae_correct.specs.Correct.{IsCorrect}
use Rattle.ae_correct.specs.ClockTexts.{IsFed}

-- a typed program whose parameters and results have these layouts under a slowdown within its limits
pub record IsLaidOut (p : ProgramTree) (slowdown : ℕ) (ins outs : List StTree) : Type 0 where
  pub typed : IsTyped p
  pub some : 0 < slowdown
  pub most : slowdown ≤ 4096
  pub layouts : HaveLayouts p slowdown ins outs

-- nothing is asked below of how a circuit was made, nor of the lines that the names of its module tell

-- a circuit for the program, within the limit of load, can be written as a module
abbrev pub CircuitsAreWritable : Type 0
CircuitsAreWritable =
    (p : ProgramTree) (slowdown : ℕ) (costs : OwnCosts) (ins outs : List StTree) (n : Circuit)
    → IsLaidOut p slowdown ins outs → costs.load ≤ 100000 → IsCircuitFor p slowdown costs ins outs n
    → IsWritableNetlist n.cells n.outlets (length outs)

-- the module that it is written as, where it has the netlist's runs, is correct for the program, with the latency of the costs
abbrev pub CircuitsAreCorrect : Type 0
CircuitsAreCorrect =
    (lines : ℕ → ℕ) (p : ProgramTree) (slowdown : ℕ) (costs : OwnCosts) (ins outs : List StTree) (n : Circuit)
    → IsLaidOut p slowdown ins outs → IsCircuitFor p slowdown costs ins outs n
    → HasSameRuns (netlist_module lines n.cells n.outlets (length outs)) n
    → IsCorrect (netlist_module lines n.cells n.outlets (length outs)) p slowdown costs.latency

-- the module's run on the blocks has in each clock after reset the words of the circuit's run on the words of the blocks
pub record IsShownAs (m : ModuleTree) (n : Circuit) (slowdown latency fill : ℕ) (ins : List StTree)
    (blocks : List (List ValueTree)) (run : List Clock) : Type 0 where
  pub shown : List ModuleClock
  pub long : length shown ≡ 1 + clock_count slowdown latency (length blocks)
  pub fed : IsFed m slowdown fill ins blocks shown
  pub inputs : (c : ℕ) → c < clock_count slowdown latency (length blocks)
      → clock_row slowdown fill ins (map (map flat) blocks) c ≡ input_words m (clock_at shown (1 + c))
  pub outputs : (c : ℕ) → c < clock_count slowdown latency (length blocks)
      → shown_words n.outlets run (1 + c) ≡ output_words m (clock_at shown (1 + c))

-- what the circuit shows of its run on the words of blocks, the module shows of the blocks
abbrev pub RunsAreShown : Type 0
RunsAreShown =
    (lines : ℕ → ℕ) (p : ProgramTree) (slowdown : ℕ) (costs : OwnCosts) (ins outs : List StTree) (n : Circuit)
    (latency fill : ℕ) (blocks : List (List ValueTree)) (run : List Clock)
    → IsLaidOut p slowdown ins outs → IsCircuitFor p slowdown costs ins outs n
    → HasSameRuns (netlist_module lines n.cells n.outlets (length outs)) n
    → ((b : ℕ) (block : List ValueTree) → slice_get blocks b ≡ Some block → AreValues (input_types p) block)
    → All (AreInputs n.cells) (fed_rows slowdown fill ins (map (map flat) blocks)
    (clock_count slowdown latency (length blocks)))
    → IsRunWith n.cells (fed_rows slowdown fill ins (map (map flat) blocks)
    (clock_count slowdown latency (length blocks))) (filled n.cells fill) run
    → IsShownAs (netlist_module lines n.cells n.outlets (length outs)) n slowdown latency fill ins blocks run

-- what fits the inputs of a circuit fits those of each that has the runs of the same module
abbrev pub FeedsAreAlike : Type 0
FeedsAreAlike =
    (m : ModuleTree) (a b : Circuit) (row : List ℕ) → HasSameRuns m a → HasSameRuns m b → AreInputs a.cells row
    → AreInputs b.cells row

-- what a circuit shows of its run on blocks, each shows that has the runs of the same module
abbrev pub RunsAreAlike : Type 0
RunsAreAlike =
    (m : ModuleTree) (a b : Circuit) (slowdown latency fill : ℕ) (ins : List StTree) (blocks : List (List (List ℕ)))
    (run : List Clock)
    → HasSameRuns m a → HasSameRuns m b → HasOneRunWith b.cells → AreFirsts b.cells (filled b.cells fill)
    → All (AreInputs b.cells) (fed_rows slowdown fill ins blocks (clock_count slowdown latency (length blocks)))
    → IsRunWith a.cells (fed_rows slowdown fill ins blocks (clock_count slowdown latency (length blocks)))
    (filled a.cells fill) run
    → (other : List Clock) × IsRunWith b.cells
    (fed_rows slowdown fill ins blocks (clock_count slowdown latency (length blocks))) (filled b.cells fill) other
    × ((c : ℕ) → c < clock_count slowdown latency (length blocks)
    → shown_words a.outlets run (1 + c) ≡ shown_words b.outlets other (1 + c))
