-- The circuit of a fused program: each result is a move straight from the parameters, as late as the latest.
use Rattle.std.specs.Prelude.{◌≡◌, ℕ, ◌-◌, ◌<◌, ◌≤◌, true, List, length, map, take, Some, slice_get}
use Rattle.ae_sttype.specs.StTree.{StTree, st_tree, time}
use Rattle.ae_netlist.specs.declared.cell.NetId.{NetId}
use Rattle.ae_netlist.specs.declared.cell.SizedCell.{SizedCell}
use Rattle.ae_netlist.specs.Circuit.{Circuit}
use Rattle.ae_netlist.specs.Runs.{Clock, IsReset, IsRun}
use Rattle.ae_ops.specs.Waves.{AreNets}
use Rattle.ae_ops.specs.Blocks.{BlockLaw, KeepsLaw, Part, Stream, stream_of, stream_widths}
use Rattle.ae_moves.specs.Origins.{IsMove, Move}
use Rattle.ae_gather.specs.Gathers.{origin_word}
use Rattle.ae_eval.specs.Stack.{IsTyped}
use Rattle.ae_seq.specs.ProgramTree.{ProgramTree}
use Rattle.ae_seq.specs.Meaning.{at}
use Rattle.ae_rewrite.specs.Blocks.{MakesBlocks, output_wave}
use Rattle.ae_rewrite.specs.Interface.{HaveLayouts, parameter_types}
use Rattle.ae_rewrite.specs.Scheduled.{IsSchedule}
use Rattle.ae_rewrite.specs.Sound.{IsSound}
use Rattle.ae_rewrite.specs.StProgramTree.{StFuncTree, st_trees}
use Rattle.ae_ports.specs.Ports.{columns_in, input_waves, streams_of}
use Rattle.ae_ports.specs.CircuitFor.{IsCircuitFor}
use Rattle.ae_lower.specs.Parts.{plain_part}
use Rattle.ae_trace.specs.Traces.{is_movement, trace, traced_move}
use Rattle.ae_results.specs.declared.result.FusedResult.{FusedResult}
use Rattle.ae_fuse.specs.Costing.{fused_costs}
use Rattle.ae_results.specs.Results.{result_move}
use Rattle.ae_fuse.specs.Fused.{FusedView, IsFusedOf, costs_in, moves_in}

-- ---- what is sure of every fused program

-- each result has a move straight from the parameters, of which there are few, and the costs are those of the moves
pub record IsWhole (f : FusedView) : Type 0 where
  pub moves : (k : ℕ) (r : FusedResult) → slice_get f.results k ≡ Some r → IsMove (result_move (st_trees f.ins) r)
  pub few_ins : length f.ins ≤ 8
  pub some : 0 < length f.results
  pub few : length f.results ≤ 8
  pub costs : costs_in f ≡ fused_costs (moves_in f)

-- ---- moves that are all as late as the latest

abbrev pub late_part : (whole : ℕ) → Move → Part
late_part whole m =
    plain_part (time m.out) whole (streams_of m.ins) (stream_of m.out) (λ vs. map (origin_word m.ins vs) m.origins)

-- nets that are the result of a move
pub record IsLateResult (cells : List SizedCell) (rst : ℕ) (whole : ℕ) (m : Move) (args : List (List NetId))
    (nets : List NetId) : Type 0 where
  pub there : AreNets cells (stream_widths (stream_of m.out)) nets
  pub law : KeepsLaw cells rst 0 (late_part whole m) args nets

-- where the values of a result stand
abbrev pub result_stream : FusedResult → Stream
result_stream r = stream_of (st_tree r.out)

-- one for each of the first moves
pub record AreLateResults (cells : List SizedCell) (rst : ℕ) (whole : ℕ) (ms : List Move) (count : ℕ)
    (args bundles : List (List NetId)) : Type 0 where
  pub long : length bundles ≡ count
  pub each : (r : ℕ) (m : Move) (nets : List NetId) → slice_get ms r ≡ Some m → slice_get bundles r ≡ Some nets
      → IsLateResult cells rst whole m args nets

-- ---- blocks

-- in every reset run each block of the arguments' words on the inputs makes the outputs of each result have the words of its
-- one move, all of them so many clocks later
abbrev pub MakesMoves : (p : ProgramTree) (slowdown latency : ℕ) (ins outs : List StTree) → Circuit → Type 0
MakesMoves p slowdown latency ins outs n =
    (run : List Clock) (start : ℕ) → IsRun n.cells run → IsReset run 0 start → (r : ℕ) (s : StTree)
    → slice_get outs r ≡ Some s
    → BlockLaw (length run - start) 0
    (plain_part slowdown latency (streams_of ins) (stream_of s)
    (λ vs. map (origin_word ins vs) (traced_move (parameter_types p) ins s (at (trace p) r)).origins))
    (input_waves run start 1 (streams_of ins)) (output_wave run n.outlets start (columns_in (take r (streams_of outs))))

-- such a netlist makes the blocks of the movement program
abbrev pub MovesMakeBlocks : Type 0
MovesMakeBlocks =
    (p : ProgramTree) (slowdown latency : ℕ) (ins outs : List StTree) (n : Circuit) → is_movement p ≡ true → IsTyped p
    → 0 < slowdown → HaveLayouts p slowdown ins outs
    → MakesMoves p slowdown latency ins outs n → MakesBlocks n p slowdown latency ins outs

-- ---- the circuit

-- the layouts of the results
abbrev pub outs_in : FusedView → List StTree
outs_in f = map (λ (r : FusedResult). st_tree r.out) f.results

-- it is the circuit for each program that is so fused, by the layouts of its parameters and results and the costs of the moves
abbrev pub IsFusedCircuit : FusedView → Circuit → Type 0
IsFusedCircuit f n =
    (p : ProgramTree) (slowdown : ℕ) (instances : List StFuncTree) → IsTyped p → 0 < slowdown → slowdown ≤ 4096
    → IsSchedule p slowdown instances → IsSound instances → IsFusedOf p instances f
    → HaveLayouts p slowdown (st_trees f.ins) (outs_in f)
    × IsCircuitFor p slowdown (costs_in f) (st_trees f.ins) (outs_in f) n
