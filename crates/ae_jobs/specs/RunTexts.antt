-- The texts that a run of a program's module is written as.
use Rattle.std.specs.Prelude.{◌≡◌, ℕ, ◌+◌, ◌*◌, ◌<◌, ◌≤◌, List, ◌++◌, length, map, codes, Option, Some, None, sum_by}
use Rattle.ae_fields.specs.Rows.{bad_row}
use Rattle.ae_seq.specs.ProgramTree.{ProgramTree}
use Rattle.ae_seq.specs.Typing.{◌>>=◌}
use Rattle.ae_sttype.specs.StTree.{StTree}
use Rattle.ae_sttype.specs.Moves.{columns_of}
use Rattle.ae_rewrite.specs.LayoutRule.{lay_of}
use Rattle.ae_rewrite.specs.StProgramTree.{StFuncTree}
use Rattle.ae_play.specs.Lines.{clock_count}
use Rattle.ae_rewrite.specs.Interface.{parameter_types, result_types}
use Rattle.ae_correct.specs.ClockTexts.{IsClockText}
use Rattle.ae_jobs.specs.declared.run_job.Form.{Form}
use Rattle.ae_jobs.specs.declared.run_job.Form.TheVariants.{Lines, Dump}
use Rattle.ae_jobs.specs.declared.status.Status.{Status}
use Rattle.ae_jobs.specs.declared.status.Status.TheVariants.{Ok, BadWords, LongRun}
use Rattle.ae_jobs.specs.Refusals.{refusal_line}
use Rattle.ae_jobs.specs.Inputs.{widths_of, blocks_of}
use Rattle.ae_compile.specs.Costing.{IsCosted, load_limit, main_costs}
use Rattle.ae_jobs.specs.Schedules.{IsCostRefusal}
use Rattle.ae_compile.specs.Building.{IsModuleText}
use Rattle.ae_jobs.specs.WaveTexts.{IsWaveText}

-- the widths of the words of all parameters
abbrev pub input_widths : ProgramTree → List ℕ
input_widths p = widths_of (parameter_types p)

abbrev pub layout_columns : Option StTree → ℕ
layout_columns None = 0
layout_columns (Some s) = columns_of s

-- how many words all parameters have in a clock, and all results
abbrev pub input_count : (p : ProgramTree) (slowdown : ℕ) → ℕ
input_count p slowdown = sum_by layout_columns (map (λ t. lay_of t slowdown) (parameter_types p))

abbrev pub output_count : (p : ProgramTree) (slowdown : ℕ) → ℕ
output_count p slowdown = sum_by layout_columns (map (λ o. o >>= λ t. lay_of t slowdown) (result_types p))

-- how many words are written of a clock: on lines those of all results, in a dump those of all ports but the clock
abbrev pub word_count : Form → (p : ProgramTree) (slowdown : ℕ) → ℕ
word_count Lines p slowdown = output_count p slowdown
word_count Dump p slowdown = 1 + input_count p slowdown + output_count p slowdown

-- the size of a run: a number and these words for each clock that is shown
abbrev pub run_size : Form → ProgramTree → (slowdown latency : ℕ) → (table : List (List (List ℕ))) → ℕ
run_size form p slowdown latency table = clock_count slowdown latency (length table) * (1 + word_count form p slowdown)

-- the greatest size of a run
abbrev pub run_limit : ℕ
run_limit = 4194304

-- the text of a module that is correct for the program, and the lines of its run on the blocks of the rows
pub record IsRunText (fill : ℕ) (p : ProgramTree) (slowdown : ℕ) (instances : List StFuncTree)
    (table : List (List (List ℕ))) (text : List ℕ) : Type 0 where
  pub built : List ℕ
  pub module_text : IsModuleText p slowdown instances built
  pub clocks : List ℕ
  pub shown : IsClockText module_text.tree slowdown
      (main_costs p instances).latency fill module_text.listing.report.ins module_text.listing.report.outs
      (blocks_of (parameter_types p) table) clocks
  pub is : text ≡ (built ++ codes "%% clocks\n") ++ clocks

-- what a run is written as
abbrev pub IsRunShown : Form → (fill : ℕ) (p : ProgramTree) (slowdown : ℕ) (instances : List StFuncTree)
    (table : List (List (List ℕ))) (text : List ℕ) → Type 0
IsRunShown Lines fill p slowdown instances table text = IsRunText fill p slowdown instances table text
IsRunShown Dump fill p slowdown instances table text = IsWaveText fill p slowdown instances table text

-- what `run` or `wave` answers and writes for a costed program and rows: the first wrong row comes before a run that is too long
abbrev pub IsRunOf : Form → (fill : ℕ) (p : ProgramTree) (slowdown : ℕ) (instances : List StFuncTree)
    (table : List (List (List ℕ))) → Status → (text : List ℕ) → Type 0
IsRunOf form fill p slowdown instances table Ok text =
    (bad_row 1 (input_widths p) table ≡ None)
    × (run_size form p slowdown (main_costs p instances).latency table ≤ run_limit)
    × IsRunShown form fill p slowdown instances table text
IsRunOf form fill p slowdown instances table (BadWords row column) text =
    (bad_row 1 (input_widths p) table ≡ Some (row, column)) × (text ≡ refusal_line (BadWords row column))
IsRunOf form fill p slowdown instances table (LongRun size) text =
    (bad_row 1 (input_widths p) table ≡ None) × (run_limit < size)
    × (size ≡ run_size form p slowdown (main_costs p instances).latency table)
    × (text ≡ refusal_line (LongRun size))
IsRunOf form fill p slowdown instances table _ text = ⊥

-- the program's refusals come before those of the rows
pub data IsPlayed (form : Form) (slowdown fill : ℕ) (part : List ℕ) (table : List (List (List ℕ))) (status : Status)
    (text : List ℕ) : Type 0 where
  Unbuilt : IsCostRefusal load_limit part slowdown status → text ≡ refusal_line status
      → IsPlayed form slowdown fill part table status text
  Played : (p : ProgramTree) (instances : List StFuncTree) → IsCosted load_limit part slowdown p instances
      → IsRunOf form fill p slowdown instances table status text → IsPlayed form slowdown fill part table status text
