-- The circuit of a program under a slowdown, and what is told of it.
use Rattle.std.specs.Prelude.{◌≡◌, ℕ, Bool, true, false, List, map, Some, slice_get}
use Rattle.ae_seq.specs.ProgramTree.{ProgramTree}
use Rattle.ae_rewrite.specs.StProgramTree.{StFuncTree}
use Rattle.ae_netlist.specs.Circuit.{Circuit}
use Rattle.ae_rewrite.specs.Interface.{HaveLayouts}
use Rattle.ae_ports.specs.CircuitFor.{IsCircuitFor}
use Rattle.ae_stall.specs.Images.{renumbered}
use Rattle.ae_stall.specs.Stalled.{IsStalled}
use Rattle.ae_lower.specs.Circuits.{last_of, results_of}
use Rattle.ae_correct.specs.Laws.{IsLaidOut}
use Rattle.ae_verilog.specs.Notes.{ArePrinted, NoteTree}
use Rattle.ae_verilog.specs.ReportLines.{ReportTree}
use Rattle.ae_compile.specs.Costing.{main_costs}
use Rattle.ae_compile.specs.LineNotes.{AreLineNotes}

-- what is told of a circuit before its module
abbrev pub report_of : (enable : Bool) → ProgramTree → (slowdown : ℕ) → List StFuncTree → StFuncTree → ReportTree
report_of enable p slowdown instances s = record {
  slowdown = slowdown;
  latency = (main_costs p instances).latency;
  muls = (main_costs p instances).muls;
  load = (main_costs p instances).load;
  enable = enable;
  ins = s.ins;
  outs = results_of s;
}

-- a circuit for the program, by its costs and the layouts of its instance
abbrev pub IsMadeFor : ProgramTree → (slowdown : ℕ) → List StFuncTree → Circuit → Type 0
IsMadeFor p slowdown instances n =
    (s : StFuncTree) → slice_get instances (last_of instances) ≡ Some s → HaveLayouts p slowdown s.ins (results_of s)
    × IsCircuitFor p slowdown (main_costs p instances) s.ins (results_of s) n

-- a circuit for the program with its costs, the report of these and of the layouts, and the notes of the program's lines
pub record IsCompiled (p : ProgramTree) (slowdown : ℕ) (instances : List StFuncTree) (n : Circuit)
    (report : ReportTree) (notes : List NoteTree) : Type 0 where
  pub instance : StFuncTree
  pub last : slice_get instances (last_of instances) ≡ Some instance
  pub reported : report ≡ report_of false p slowdown instances instance
  pub laid : IsLaidOut p slowdown report.ins report.outs
  pub circuit : IsCircuitFor p slowdown (main_costs p instances) report.ins report.outs n
  pub noted : AreLineNotes p instances instance n.cells notes
  pub printed : ArePrinted notes

-- a note of a cell behind the enable
abbrev pub moved_note : NoteTree → NoteTree
moved_note n = record n { cell = renumbered n.cell }

-- the same of the circuit with an enable that was made of a circuit for the program, whose notes move with their cells
pub record IsCompiledStalled (p : ProgramTree) (slowdown : ℕ) (instances : List StFuncTree) (n : Circuit)
    (report : ReportTree) (notes : List NoteTree) : Type 0 where
  pub instance : StFuncTree
  pub last : slice_get instances (last_of instances) ≡ Some instance
  pub reported : report ≡ report_of true p slowdown instances instance
  pub laid : IsLaidOut p slowdown report.ins report.outs
  pub plain : Circuit
  pub circuit : IsCircuitFor p slowdown (main_costs p instances) report.ins report.outs plain
  pub stalled : IsStalled plain n
  pub before : List NoteTree
  pub noted : AreLineNotes p instances instance plain.cells before
  pub moved : notes ≡ map moved_note before
  pub printed : ArePrinted notes
