-- The text that a program is built into.
use Rattle.std.specs.Prelude.{◌≡◌, ℕ, ◌+◌, ◌-◌, ◌*◌, ◌^◌, ◌<◌, ◌≤◌, List, ◌++◌, length, IsTrue}
use Rattle.std.specs.List.{list_all}
use Rattle.ae_netlist.specs.Circuit.{Circuit}
use Rattle.ae_netlist.specs.Counts.{count_of, is_mul}
use Rattle.ae_vmodule.specs.ModuleTree.{ModuleTree}
use Rattle.ae_vread.specs.Spells.{Spells, stars}
use Rattle.ae_judge.specs.Faults.{IsWellFormed}
use Rattle.ae_runs.specs.Runs.{HasOneModuleRun}
use Rattle.ae_judge.specs.Weight.{weight}
use Rattle.ae_verilog.specs.Notes.{NoteTree, noted_module}
use Rattle.ae_verilog.specs.ReportLines.{ReportTree, report_lines, is_clean}
use Rattle.ae_verilog.specs.Text.{whole_text}
use Rattle.ae_seq.specs.ProgramTree.{ProgramTree}
use Rattle.ae_rewrite.specs.StProgramTree.{StFuncTree}
use Rattle.ae_delay.specs.declared.own.OwnCosts.{OwnCosts}
use Rattle.ae_correct.specs.Correct.{IsCorrect, ports_of}
use Rattle.ae_stalled.specs.Correct.{IsCorrectStalled}
use Rattle.ae_stalled.specs.Laws.{stall_limit}
use Rattle.ae_headline.specs.Headline.{IsProgramListing}
use Rattle.ae_compile.specs.Costing.{IsCosted, load_limit, main_costs}
use Rattle.ae_compile.specs.Compiling.{IsCompiled, IsCompiledStalled}

-- the text is the report lines and then the listing of a circuit with its notes, and nothing else
pub record IsListing (IsMade : Circuit → ReportTree → List NoteTree → Type 0) (text : List ℕ) : Type 0 where
  pub circuit : Circuit
  pub report : ReportTree
  pub notes : List NoteTree
  pub compiled : IsMade circuit report notes
  pub listed : text ≡ whole_text (report_lines report) notes circuit.cells circuit.outlets (length report.outs)

-- what is sure of the text that a circuit was written as
pub record IsWritten (report : ReportTree) (n : Circuit) (notes : List NoteTree) (text : List ℕ) : Type 0 where
  pub spells : Spells text (noted_module notes n.cells n.outlets (length report.outs))
  pub stars_are : stars (noted_module notes n.cells n.outlets (length report.outs)) ≡ count_of is_mul n.cells
  pub rest : List ℕ
  pub reports : text ≡ report_lines report ++ rest
  pub clean : IsTrue (list_all is_clean text)
  pub few : length text < 2 ^ 32
  pub listed : text ≡ whole_text (report_lines report) notes n.cells n.outlets (length report.outs)

-- such a listing spells one module, which is well formed, has one run on any inputs, and is right; it has a `*` for each
-- multiplier of the costs, and weighs no more than the load and its ports, all but the clock, allow
pub record IsListedText (IsMade : Circuit → ReportTree → List NoteTree → Type 0) (IsRight : ModuleTree → Type 0)
    (costs : OwnCosts) (by_load by_ports : ℕ) (text : List ℕ) : Type 0 where
  pub listing : IsListing IsMade text
  pub tree : ModuleTree
  pub spells : Spells text tree
  pub only : (other : ModuleTree) → Spells text other → other ≡ tree
  pub formed : IsWellFormed tree
  pub one_run : HasOneModuleRun tree
  pub correct : IsRight tree
  pub products : stars tree ≡ costs.muls
  pub light : weight tree ≤ by_load * costs.load + 1 + by_ports * (length (ports_of tree) - 1)
  pub rest : List ℕ
  pub reports : text ≡ report_lines listing.report ++ rest
  pub clean : IsTrue (list_all is_clean text)

-- the text of the program's circuit: its module is correct for the program, with the latency that the report tells
abbrev pub IsModuleText : (p : ProgramTree) (slowdown : ℕ) (instances : List StFuncTree) (text : List ℕ) → Type 0
IsModuleText p slowdown instances text =
    IsListedText (IsCompiled p slowdown instances) (λ m. IsCorrect m p slowdown (main_costs p instances).latency)
    (main_costs p instances) 64 4 text

-- the text of its circuit with an enable: the same, where only the clocks count in which the enable is 1
abbrev pub IsStalledText : (p : ProgramTree) (slowdown : ℕ) (instances : List StFuncTree) (text : List ℕ) → Type 0
IsStalledText p slowdown instances text =
    IsListedText (IsCompiledStalled p slowdown instances)
    (λ m. IsCorrectStalled m p slowdown (main_costs p instances).latency) (main_costs p instances) 128 8 text

-- the same of the program of an input, and on one page: the text is the listing of a netlist that does what the program means
pub record IsBuiltText (part : List ℕ) (slowdown : ℕ) (text : List ℕ) : Type 0 where
  pub headline : IsProgramListing part slowdown text
  pub program : ProgramTree
  pub instances : List StFuncTree
  pub costed : IsCosted load_limit part slowdown program instances
  pub built : IsModuleText program slowdown instances text

pub record IsBuiltStalled (part : List ℕ) (slowdown : ℕ) (text : List ℕ) : Type 0 where
  pub program : ProgramTree
  pub instances : List StFuncTree
  pub costed : IsCosted stall_limit part slowdown program instances
  pub built : IsStalledText program slowdown instances text
