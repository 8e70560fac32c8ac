-- What a circuit of a program does: block after block, it makes of the values of the parameters those of the results, where
-- they stand in the slots of their layouts (Durst et al., PLDI 2020). Every way of lowering a program keeps this.
use Rattle.std.specs.Prelude.{◌≡◌, ℕ, ◌+◌, ◌*◌, ◌≤◌, List, length, map, Some, slice_get, unwrap_or}
use Rattle.ae_seqtype.specs.ValueTree.{ValueTree, flat}
use Rattle.ae_seq.specs.ProgramTree.{ProgramTree}
use Rattle.ae_seq.specs.Meaning.{at, mean}
use Rattle.ae_sttype.specs.StTree.{StTree, element_words}
use Rattle.ae_sttype.specs.Slots.{slots}
use Rattle.ae_sttype.specs.Holds.{Holds}
use Rattle.ae_sttype.specs.Moves.{first_column}
use Rattle.ae_netlist.specs.declared.cell.Outlet.{Outlet}
use Rattle.ae_netlist.specs.Circuit.{Circuit}
use Rattle.ae_netlist.specs.Runs.{Clock, IsReset, IsRun, word_at}
use Rattle.ae_rewrite.specs.Interface.{AreValues, parameter_types}

-- Clocks are counted from the first one without reset. Cell 0 is the reset; behind it stand the inputs, a cell for each
-- column of each parameter, and the outputs have one for each column of each result.

-- the words of the cells from one on
abbrev pub input_wave : List Clock → (start first : ℕ) → (clock column : ℕ) → ℕ
input_wave run start first = λ c q. word_at run (start + c) (first + q)

-- the net of an output, by its number; the default is read of none
abbrev pub outlet_net : List Outlet → ℕ → ℕ
outlet_net outlets k = (unwrap_or (slice_get (map (λ (o : Outlet). o.net) outlets) k) (record { 0 = 0 })).0

-- the words of the outputs from one on
abbrev pub output_wave : List Clock → List Outlet → (start first : ℕ) → (clock column : ℕ) → ℕ
output_wave run outlets start first = λ c q. word_at run (start + c) (outlet_net outlets (first + q))

-- from clock k on, the inputs hold the value of each parameter
pub record InputsHold (run : List Clock) (start k : ℕ) (inputs : List StTree) (values : List ValueTree) : Type 0 where
  pub each : (q : ℕ) (s : StTree) → slice_get inputs q ≡ Some s → Holds (input_wave run start (1 + first_column inputs q)) k (element_words s) (slots s) (flat (at values q))

-- and the outputs that of each result
pub record OutputsHold (run : List Clock) (outlets : List Outlet) (start k : ℕ) (outputs : List StTree) (values : List ValueTree) : Type 0 where
  pub each : (r : ℕ) (s : StTree) → slice_get outputs r ≡ Some s → Holds (output_wave run outlets start (first_column outputs r)) k (element_words s) (slots s) (flat (at values r))

-- in a reset run, where a block of arguments stands on the inputs, the program's results of it stand on the outputs, so many
-- clocks later
pub record MakesBlocks (n : Circuit) (p : ProgramTree) (slowdown latency : ℕ) (inputs outputs : List StTree) : Type 0 where
  pub makes : (run : List Clock) (start b : ℕ) (block : List ValueTree) → IsRun n.cells run → IsReset run 0 start → start + (latency + (b + 1) * slowdown) ≤ length run
      → AreValues (parameter_types p) block → InputsHold run start (b * slowdown) inputs block → OutputsHold run n.outlets start (latency + b * slowdown) outputs (mean p block)
