-- What `sim` answers and writes, by the netlist of a module.
use Rattle.std.specs.Prelude.{◌≡◌, ℕ, ◌+◌, ◌*◌, ◌^◌, ◌<◌, ◌≤◌, List, length, map, Option, Some, None}
use Rattle.ae_fields.specs.Rows.{bad_row, words_in}
use Rattle.ae_netlist.specs.declared.cell.SizedCell.{SizedCell}
use Rattle.ae_netlist.specs.Circuit.{Circuit}
use Rattle.ae_netlist.specs.Counts.{is_input, count_of, cells_of}
use Rattle.ae_netlist.specs.Runs.{Clock}
use Rattle.ae_netlist.specs.Rows.{IsRunWith, filled}
use Rattle.ae_vmodule.specs.ModuleTree.{ModuleTree}
use Rattle.ae_judge.specs.declared.fault.ElabFault.{ElabFault}
use Rattle.ae_judge.specs.Faults.{IsFault, IsWellFormed}
use Rattle.ae_jobs.specs.declared.status.VFaultKind.{VFaultKind}
use Rattle.ae_jobs.specs.declared.status.Status.{Status}
use Rattle.ae_jobs.specs.declared.status.Status.TheVariants.{Ok, BadWords, BadModule, LongRun}
use Rattle.ae_jobs.specs.Refusals.{refusal_line}
use Rattle.ae_jobs.specs.RunTexts.{run_limit}
use Rattle.ae_play.specs.Lines.{shown_words}
use Rattle.ae_jobs.specs.SimTexts.{or_bit, taken_words, words_of_clocks, module_kind, IsSimOf}

-- the widths of the inputs of a netlist; without inputs one bit
abbrev pub cell_widths : List SizedCell → List ℕ
cell_widths cells = or_bit (map (λ (s : SizedCell). s.width) (cells_of is_input cells))

-- what stands at the inputs of a netlist, clock by clock
abbrev pub input_rows : List SizedCell → (table : List (List (List ℕ))) → List (List ℕ)
input_rows cells table = map (λ r. taken_words (count_of is_input cells) r) table

-- fewer than 2 ^ 32 rows with the right words in each column, and their words one row after another
pub record AreSimRows (cells : List SizedCell) (columns : ℕ) (table : List (List (List ℕ)))
    (words : List ℕ) : Type 0 where
  pub columns_are : columns ≡ length (cell_widths cells)
  pub few : length table < 2 ^ 32
  pub right : bad_row 1 (cell_widths cells) table ≡ None
  pub words_are : words ≡ words_in table

-- the lines of the netlist's run on the rows
pub record IsNetText (n : Circuit) (fill : ℕ) (table : List (List (List ℕ))) (text : List ℕ) : Type 0 where
  pub run : List Clock
  pub runs : IsRunWith n.cells (input_rows n.cells table) (filled n.cells fill) run
  pub lines : text ≡ words_of_clocks (λ c. shown_words n.outlets run c) (length table)

-- for each row its number and the words of all outputs
abbrev pub net_size : Circuit → (table : List (List (List ℕ))) → ℕ
net_size n table = length table * (1 + length n.outlets)

-- what is answered and written for a netlist
abbrev pub IsNetSim : (fill : ℕ) (n : Circuit) (table : List (List (List ℕ))) → Status → (text : List ℕ) → Type 0
IsNetSim fill n table Ok text =
    (bad_row 1 (cell_widths n.cells) table ≡ None) × (net_size n table ≤ run_limit) × IsNetText n fill table text
IsNetSim fill n table (BadWords row column) text =
    (bad_row 1 (cell_widths n.cells) table ≡ Some (row, column)) × (text ≡ refusal_line (BadWords row column))
IsNetSim fill n table (LongRun size) text =
    (bad_row 1 (cell_widths n.cells) table ≡ None) × (run_limit < size) × (size ≡ net_size n table)
    × (text ≡ refusal_line (LongRun size))
IsNetSim fill n table _ text = ⊥

-- the refusal of a module that has a fault of this kind
abbrev pub IsRefusedAs : Option VFaultKind → Status → (text : List ℕ) → Type 0
IsRefusedAs kind status text =
    (k : VFaultKind) × (kind ≡ Some k) × (status ≡ BadModule k) × (text ≡ refusal_line (BadModule k))

-- what is answered and written for a module that a text spells
pub data IsModuleReply (fill : ℕ) (m : ModuleTree) (table : List (List (List ℕ))) (status : Status)
    (text : List ℕ) : Type 0 where
  Refused : (fault : ElabFault) → IsFault m fault → IsRefusedAs (module_kind fault) status text
      → IsModuleReply fill m table status text
  Played : IsWellFormed m → IsSimOf fill m table status text → IsModuleReply fill m table status text
