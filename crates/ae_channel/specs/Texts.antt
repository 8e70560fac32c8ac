-- The text of the module of a program between two channels.
use Rattle.std.specs.Prelude.{ℕ, List, length}
use Rattle.ae_seq.specs.ProgramTree.{ProgramTree}
use Rattle.ae_rewrite.specs.StProgramTree.{StFuncTree}
use Rattle.ae_netlist.specs.Circuit.{Circuit}
use Rattle.ae_verilog.specs.Notes.{NoteTree}
use Rattle.ae_verilog.specs.ReportLines.{ReportTree}
use Rattle.ae_stream.specs.Progress.{GoesOn}
use Rattle.ae_stream.specs.Streams.{Stays, Streams}
use Rattle.ae_streamed.specs.Between.{InResetRuns, IsStream, ends_for}
use Rattle.ae_compile.specs.Compiling.{IsCompiled}
use Rattle.ae_channel.specs.Listings.{IsListedAs}

-- the text is such a listing of the circuit of a program between two channels. In every reset run of that, at whatever pace
-- both ends go, what passes at the sink is the first part of the results of what passed at the source, block for block,
-- words stay until they are taken, and it goes on
pub record IsStreamText (p : ProgramTree) (slowdown : ℕ) (instances : List StFuncTree)
    (name text : List ℕ) : Type 0 where
  pub circuit : Circuit
  pub report : ReportTree
  pub notes : List NoteTree
  pub compiled : IsCompiled p slowdown instances circuit report notes
  pub between : Circuit
  pub stream : IsStream circuit between report.slowdown report.latency report.ins report.outs
  pub streams : InResetRuns between.cells (λ run start.
      Streams (ends_for report.ins (length circuit.outlets) between) run start p report.slowdown report.ins report.outs)
  pub stays : InResetRuns between.cells (λ run start.
      Stays (ends_for report.ins (length circuit.outlets) between) (length circuit.outlets) run start)
  pub goes_on : InResetRuns between.cells (λ run start.
      GoesOn (ends_for report.ins (length circuit.outlets) between) run start report.slowdown report.latency report.ins
      report.outs)
  pub listed : IsListedAs report name between text
