-- What the passes hand on, and what is sure of it.
use Rattle.std.specs.Prelude.{ℕ, ◌≤◌, List, length, map}
use Rattle.ae_seq.specs.declared.program.Program.{Program}
use Rattle.ae_seq.specs.ProgramTree.{program_tree}
use Rattle.ae_rewrite.specs.declared.st_program.StFunc.{StFunc}
use Rattle.ae_rewrite.specs.StProgramTree.{st_func_trees}
use Rattle.ae_netlist.specs.Circuit.{Circuit}
use Rattle.ae_lower.specs.declared.sections.Section.{Section}
use Rattle.ae_verilog.specs.declared.notes.Note.{Note}
use Rattle.ae_verilog.specs.declared.report.Report.{Report}
use Rattle.ae_verilog.specs.Notes.{note_tree}
use Rattle.ae_verilog.specs.ReportLines.{report_tree}
use Rattle.ae_stalled.specs.Laws.{stall_limit}
use Rattle.ae_compile.specs.declared.costs.Costs.{Costs}
use Rattle.ae_compile.specs.Costing.{IsKnown, load_limit, main_costs}
use Rattle.ae_compile.specs.Compiling.{IsCompiled, IsCompiledStalled}
use Rattle.ae_compile.specs.LineNotes.{AreCellSections}

-- a program, its schedule under a slowdown, and the costs of that
pub record CostedView : Type 0 where
  pub slowdown : ℕ
  pub program : Program
  pub schedule : List StFunc
  pub costs : Costs

-- the program is typed, the schedule is one for it, and its costs are within the limit
abbrev pub IsCostedProgram : CostedView → Type 0
IsCostedProgram c = IsKnown load_limit (program_tree c.program) c.slowdown (st_func_trees c.schedule) c.costs

-- such a program, its circuit, and what is told of that
pub record CompiledView : Type 0 where
  pub costed : CostedView
  pub report : Report
  pub netlist : Circuit
  pub notes : List Note
  pub sections : List Section

-- the circuit is one for the program, and what is told is so
pub record IsCompiledProgram (d : CompiledView) : Type 0 where
  pub costed : IsCostedProgram d.costed
  pub compiled : IsCompiled (program_tree d.costed.program) d.costed.slowdown
      (st_func_trees d.costed.schedule) d.netlist (report_tree d.report) (map note_tree d.notes)
  pub sections : AreCellSections (program_tree d.costed.program) (st_func_trees d.costed.schedule)
      (length d.netlist.cells) d.sections

-- the same of its circuit with an enable, whose load is within the limit of these
pub record IsStalledProgram (d : CompiledView) : Type 0 where
  pub costed : IsCostedProgram d.costed
  pub light : (main_costs (program_tree d.costed.program) (st_func_trees d.costed.schedule)).load ≤ stall_limit
  pub compiled : IsCompiledStalled (program_tree d.costed.program) d.costed.slowdown
      (st_func_trees d.costed.schedule) d.netlist (report_tree d.report) (map note_tree d.notes)
