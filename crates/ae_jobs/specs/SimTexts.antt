-- What `sim` answers and writes: the clock lines of the module that a Verilog text spells, on rows of words.
use Rattle.std.specs.Prelude.{◌≡◌, ℕ, zero, suc, ◌+◌, ◌*◌, ◌<◌, ◌≤◌, List, [], ◌∷◌, ◌++◌, length, map, take, slice_get, unwrap_or, Option, Some, None}
use Rattle.std.specs.Fmt.{decimal}
use Rattle.ae_fields.specs.Rows.{bad_row, row_words}
use Rattle.ae_vmodule.specs.ModuleTree.{NetTree, ModuleTree}
use Rattle.ae_vread.specs.Spells.{Spells}
use Rattle.ae_vread.specs.Refusals.{HasFault}
use Rattle.ae_vread.specs.declared.reader.VFault.{VFault}
use Rattle.ae_vread.specs.declared.reader.VFault.TheVariants as v
use Rattle.ae_judge.specs.declared.fault.ElabFault.{ElabFault}
use Rattle.ae_judge.specs.declared.fault.ElabFault.TheVariants as e
use Rattle.ae_judge.specs.Faults.{IsFault, IsWellFormed}
use Rattle.ae_runs.specs.Values.{ModuleClock}
use Rattle.ae_runs.specs.Runs.{clock_at, IsModuleRun}
use Rattle.ae_runs.specs.SameRuns.{inputs_of, outputs_of, states_of, kind_depth, input_words, output_words, held_words}
use Rattle.ae_jobs.specs.declared.status.VFaultKind.{VFaultKind}
use Rattle.ae_jobs.specs.declared.status.VFaultKind.TheVariants.{BadToken, BadHeader, BadItem, Unknown, Twice, Kind, Undriven, Width, Loop, Large}
use Rattle.ae_jobs.specs.declared.status.Status.{Status}
use Rattle.ae_jobs.specs.declared.status.Status.TheVariants.{Ok, BadWords, BadModule, LongRun}
use Rattle.ae_jobs.specs.Refusals.{refusal_line}
use Rattle.ae_play.specs.Lines.{spaced}
use Rattle.ae_correct.specs.ClockTexts.{first_words}
use Rattle.ae_jobs.specs.RunTexts.{run_limit}

-- ---- the module

-- the text spells this module and no other
pub record SpellsOnly (part : List ℕ) (m : ModuleTree) : Type 0 where
  pub spells : Spells part m
  pub only : (n : ModuleTree) → Spells part n → n ≡ m

-- the text spells this module, which is well formed
pub record IsModuleOf (part : List ℕ) (m : ModuleTree) : Type 0 where
  pub spells : SpellsOnly part m
  pub formed : IsWellFormed m

-- what is told of a fault of the text; nothing of want of memory
abbrev pub text_kind : VFault → Option VFaultKind
text_kind (v.BadToken at) = Some (BadToken at)
text_kind v.BadHeader = Some BadHeader
text_kind (v.BadItem item) = Some (BadItem item)
text_kind v.Memory = None

-- what is told of a fault of a module
abbrev pub module_kind : ElabFault → Option VFaultKind
module_kind (e.Unknown item) = Some (Unknown item)
module_kind (e.Twice item) = Some (Twice item)
module_kind (e.Kind item) = Some (Kind item)
module_kind (e.Undriven net) = Some (Undriven net)
module_kind (e.Width item) = Some (Width item)
module_kind (e.Loop net) = Some (Loop net)
module_kind e.Large = Some Large
module_kind e.Memory = None

-- the text spells no module and leaves the grammar there, or it spells one with this fault
pub data IsModuleFault (part : List ℕ) (kind : VFaultKind) : Type 0 where
  Unread : (fault : VFault) → text_kind fault ≡ Some kind → HasFault part fault
      → ((m : ModuleTree) → Spells part m → ⊥) → IsModuleFault part kind
  Misformed : (m : ModuleTree) (fault : ElabFault) → module_kind fault ≡ Some kind → SpellsOnly part m
      → IsFault m fault → IsModuleFault part kind

-- ---- the rows

-- without widths one bit
abbrev pub or_bit : List ℕ → List ℕ
or_bit [] = 1 ∷ []
or_bit (w ∷ ws) = w ∷ ws

-- the widths of the words of a row: those of the inputs but the clock; where there are none, of one bit that is not used
abbrev pub row_widths : ModuleTree → List ℕ
row_widths m = or_bit (map (λ (x : NetTree). x.width) (inputs_of m))

-- the words of a row that so many inputs take
abbrev pub taken_words : (inputs : ℕ) → (row : List (List ℕ)) → List ℕ
taken_words inputs row = take inputs (row_words row)

-- ---- the run

-- a run as long as the table, with row t at the inputs in clock t; all registers and memories begin as the fill, modulo 2 to each width
pub record IsSimRun (m : ModuleTree) (fill : ℕ) (table : List (List (List ℕ))) (run : List ModuleClock) : Type 0 where
  pub long : length run ≡ length table
  pub runs : IsModuleRun m run
  pub takes : (t : ℕ) → t < length run → input_words m (clock_at run t) ≡ taken_words (length (inputs_of m))
      (unwrap_or (slice_get table t) [])
  pub begins : 0 < length run → held_words m (clock_at run 0) ≡ map
      (λ (x : NetTree). first_words fill x.width (kind_depth x.kind)) (states_of m)

-- ---- the lines

-- a clock's number, and words with a space before each
abbrev pub words_of_clock : (clock : ℕ) → (words : List ℕ) → List ℕ
words_of_clock c ws = (decimal c ++ spaced ws) ++ 10 ∷ []

-- the first lines, where clock c shows these words
abbrev pub words_of_clocks : (words : ℕ → List ℕ) → (count : ℕ) → List ℕ
words_of_clocks shown zero = []
words_of_clocks shown (suc c) = words_of_clocks shown c ++ words_of_clock c (shown c)

-- a line for each row, with the words of all outputs in the run on the rows
pub record IsSimText (m : ModuleTree) (fill : ℕ) (table : List (List (List ℕ))) (text : List ℕ) : Type 0 where
  pub run : List ModuleClock
  pub is_run : IsSimRun m fill table run
  pub lines : text ≡ words_of_clocks (λ c. output_words m (clock_at run c)) (length table)

-- for each row its number and the words of all outputs
abbrev pub sim_size : ModuleTree → (table : List (List (List ℕ))) → ℕ
sim_size m table = length table * (1 + length (outputs_of m))

-- ---- the answer

-- what is answered and written for a well-formed module: the first wrong row comes before a run that is too long
abbrev pub IsSimOf : (fill : ℕ) (m : ModuleTree) (table : List (List (List ℕ))) → Status → (text : List ℕ) → Type 0
IsSimOf fill m table Ok text =
    (bad_row 1 (row_widths m) table ≡ None) × (sim_size m table ≤ run_limit) × IsSimText m fill table text
IsSimOf fill m table (BadWords row column) text =
    (bad_row 1 (row_widths m) table ≡ Some (row, column)) × (text ≡ refusal_line (BadWords row column))
IsSimOf fill m table (LongRun size) text =
    (bad_row 1 (row_widths m) table ≡ None) × (run_limit < size) × (size ≡ sim_size m table)
    × (text ≡ refusal_line (LongRun size))
IsSimOf fill m table _ text = ⊥

-- what `sim FILL` answers and writes for a text and rows: a text that is no well-formed module comes first
abbrev pub IsSimulated : (fill : ℕ) (part : List ℕ) (table : List (List (List ℕ))) → Status → (text : List ℕ) → Type 0
IsSimulated fill part table (BadModule kind) text = IsModuleFault part kind × (text ≡ refusal_line (BadModule kind))
IsSimulated fill part table status text = (m : ModuleTree) × IsModuleOf part m × IsSimOf fill m table status text

-- the job has a result: a well-formed module, rows that are right, and a run within the limit
abbrev pub IsSimulable : (part : List ℕ) (table : List (List (List ℕ))) → Type 0
IsSimulable part table =
    (m : ModuleTree) × IsModuleOf part m × (bad_row 1 (row_widths m) table ≡ None) × (sim_size m table ≤ run_limit)
