-- The listing of a circuit between two channels, under the name of its module.
use Rattle.std.specs.Prelude.{◌≡◌, ℕ, List, length}
use Rattle.ae_netlist.specs.Circuit.{Circuit}
use Rattle.ae_vmodule.specs.ModuleTree.{ModuleTree}
use Rattle.ae_vread.specs.Spells.{Spells}
use Rattle.ae_judge.specs.Faults.{IsWellFormed}
use Rattle.ae_runs.specs.SameRuns.{HasSameRuns}
use Rattle.ae_verilog.specs.ReportLines.{ReportTree, report_lines}
use Rattle.ae_verilog.specs.Text.{stream_listing}
use Rattle.ae_spelled.specs.Streams.{IsModuleName}

-- the text spells one module, which has this name, is well formed, and has the runs of the circuit
pub record IsModuleOf (name : List ℕ) (n : Circuit) (text : List ℕ) : Type 0 where
  pub tree : ModuleTree
  pub called : tree.name ≡ name
  pub spells : Spells text tree
  pub only : (other : ModuleTree) → Spells text other → other ≡ tree
  pub formed : IsWellFormed tree
  pub same : HasSameRuns tree n

-- the text is the listing of a circuit under a name, behind report lines and the line `// stream`; under any name that a
-- module can have it is a module of the circuit
pub record IsListedAs (report : ReportTree) (name : List ℕ) (n : Circuit) (text : List ℕ) : Type 0 where
  pub listed : text ≡ stream_listing name (report_lines report) n.cells n.outlets (length report.outs)
  pub is_module : IsModuleName name → IsModuleOf name n text
