-- What the circuit of a program in space and time is.
use Rattle.std.specs.Prelude.{◌≡◌, ℕ, ◌+◌, ◌-◌, ◌*◌, ◌≤◌, List, ◌∷◌, length, map, take, Some, slice_get}
use Rattle.ae_netlist.specs.Circuit.{Circuit, IsFormed, HaveNets}
use Rattle.ae_netlist.specs.Counts.{AreWhole, count_of, is_input, is_memory, is_mul}
use Rattle.ae_netlist.specs.Runs.{Clock, IsRun, IsReset}
use Rattle.ae_ops.specs.Blocks.{Stream, BlockLaw, stream_of}
use Rattle.ae_sttype.specs.StTree.{StTree}
use Rattle.ae_seq.specs.ProgramTree.{ProgramTree}
use Rattle.ae_eval.specs.Stack.{IsTyped}
use Rattle.ae_rewrite.specs.StProgramTree.{StFuncTree}
use Rattle.ae_rewrite.specs.Scheduled.{IsSchedule}
use Rattle.ae_rewrite.specs.Sound.{item_layout, item_layouts}
use Rattle.ae_rewrite.specs.Blocks.{output_wave, MakesBlocks}
use Rattle.ae_flow.specs.Flow.{flow, words_at}
use Rattle.ae_ports.specs.Ports.{streams_of, input_cell, input_ports, input_waves, outlet_port, output_ports, reset_port, columns_in}
use Rattle.ae_lower.specs.Parts.{plain_part}
use Rattle.ae_lower.specs.Lowering.{instance_costs}

-- the number of the program function's instance
abbrev pub last_of : List StFuncTree → ℕ
last_of instances = length instances - 1

-- where the values of an item stand, and those of an instance's results
abbrev pub item_stream : StFuncTree → (item : ℕ) → Stream
item_stream s i = stream_of (item_layout (item_layouts s) i)

abbrev pub result_streams : StFuncTree → List Stream
result_streams s = map (item_stream s) s.results

-- the layouts of an instance's results
abbrev pub results_of : StFuncTree → List StTree
results_of s = map (item_layout (item_layouts s)) s.results

-- in every reset run each block of the arguments' words on the inputs makes the outputs of result r have the words of the
-- program's result, the latency later
abbrev pub MakesResults : List StFuncTree → StFuncTree → Circuit → Type 0
MakesResults instances s n =
    (run : List Clock) (start : ℕ) → IsRun n.cells run → IsReset run 0 start → (r i : ℕ)
    → slice_get s.results r ≡ Some i
    → BlockLaw (length run - start) 0
    (plain_part s.budget (instance_costs instances (last_of instances)).latency (streams_of s.ins)
    (stream_of (item_layout (item_layouts s) i)) (λ vs. words_at (flow instances vs) r))
    (input_waves run start 1 (streams_of s.ins))
    (output_wave run n.outlets start (columns_in (take r (result_streams s))))

-- every program with this schedule has its blocks made, at the latency of the costs
abbrev pub MakesProgram : List StFuncTree → StFuncTree → Circuit → Type 0
MakesProgram instances s n =
    (p : ProgramTree) (slowdown : ℕ) → IsTyped p → IsSchedule p slowdown instances
    → MakesBlocks n p slowdown (instance_costs instances (last_of instances)).latency s.ins (results_of s)

-- the reset and the words of the parameters are the inputs, the words of the results the outputs, the results come in time,
-- and the cells are within the costs
pub record IsCircuitThat (Makes : List StFuncTree → StFuncTree → Circuit → Type 0) (instances : List StFuncTree)
    (s : StFuncTree) (n : Circuit) : Type 0 where
  pub inputs : take (1 + length (input_ports (streams_of s.ins))) n.cells ≡ map input_cell
      (reset_port ∷ input_ports (streams_of s.ins))
  pub no_others : count_of is_input n.cells ≡ 1 + length (input_ports (streams_of s.ins))
  pub outputs : map (outlet_port n.cells) n.outlets ≡ output_ports (result_streams s)
  pub makes : Makes instances s n
  pub formed : IsFormed n.cells
  pub shown : HaveNets n.cells n.outlets
  pub whole : AreWhole n.cells
  pub small : length n.cells ≤ 16 * (instance_costs instances (last_of instances)).load + 1 + length
      (input_ports (streams_of s.ins))
  pub muls : count_of is_mul n.cells ≡ (instance_costs instances (last_of instances)).muls
  pub memories : count_of is_memory n.cells ≤ (instance_costs instances (last_of instances)).mems

-- a circuit of the programs with this schedule
abbrev pub IsCircuitOf : List StFuncTree → StFuncTree → Circuit → Type 0
IsCircuitOf instances s n = IsCircuitThat MakesProgram instances s n
