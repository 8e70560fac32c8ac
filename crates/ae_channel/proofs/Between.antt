-- The text of the circuit of a program between two channels.
use Rattle.std.proofs.Common.{ℕ, ◌≡◌, ◌+◌, ◌/◌, ◌≤◌, List, length}
use Rattle.std.proofs.lemmas.List.{length-map}
use Rattle.ae_netlist.specs.declared.cell.Outlet.{Outlet}
use Rattle.ae_netlist.specs.declared.cell.Port.{Port}
use Rattle.ae_netlist.specs.Counts.{AreWhole}
use Rattle.ae_verilog.specs.NetlistModule.{HavePorts}
use Rattle.ae_netlist.specs.Circuit.{Circuit}
use Rattle.ae_netlist.specs.Rows.{AreFirsts, HasOneRunWith, filled}
use Rattle.ae_seq.specs.ProgramTree.{ProgramTree}
use Rattle.ae_rewrite.specs.StProgramTree.{StFuncTree}
use Rattle.ae_verilog.specs.Notes.{NoteTree}
use Rattle.ae_verilog.specs.ReportLines.{ReportTree}
use Rattle.ae_spelled.specs.Short.{IsShort}
use Rattle.ae_rewrite.specs.Blocks.{MakesBlocks}
use Rattle.ae_play.specs.Fits as play
use Rattle.ae_stream.specs.Fed.{CanBeFed}
use Rattle.ae_streamed.specs.Between.{IsStream}
use Rattle.ae_streamed.specs.Count.{stream_cells}
use Rattle.ae_correct.proofs.Laid.{few_ins, few_outs, ins_filling, outs_filling}
use Rattle.ae_compile.specs.Compiling.{IsCompiled}
use Rattle.ae_compile.specs.Costing.{IsKnown, load_limit, main_costs}
use Rattle.ae_compile.specs.declared.costs.Costs.{Costs}
use Rattle.ae_channel.specs.Listings.{IsListedAs}
use Rattle.ae_channel.specs.Texts.{IsStreamText}
use Rattle.ae_channel.proofs.Asked.{told_laid}
use Rattle.ae_channel.proofs.Fed.{can_be_fed}
use Rattle.ae_channel.proofs.Ports.{have_ports}
use Rattle.std.proofs.Common.{[], subst, sym, ap, arith}
use Rattle.std.proofs.lemmas.Option.{none-some}

-- a report of a program is short
pub report_short : (p : ProgramTree) (slowdown : ℕ) (instances : List StFuncTree) (n : Circuit) (report : ReportTree) (notes : List NoteTree)
    → IsCompiled p slowdown instances n report notes → IsShort report [] [] []
report_short p slowdown instances n report notes d = record {
  few_ins = few_ins p slowdown report.ins report.outs d.laid;
  few_outs = few_outs p slowdown report.ins report.outs d.laid;
  ins = λ q t e. (ins_filling p slowdown report.ins report.outs d.laid q t e).size;
  outs = λ q t e. (outs_filling p slowdown report.ins report.outs d.laid q t e).size;
  few_notes = omega arith;
  names = λ i x e. absurd (none-some x e);
  layouts = λ i x e. absurd (none-some x e);
  small = omega arith;
}

-- the words of each block can be put on the inputs of a compiled circuit
pub compiled_fed : (p : ProgramTree) (slowdown : ℕ) (instances : List StFuncTree) (found : Costs) (n : Circuit) (report : ReportTree) (notes : List NoteTree)
    → IsKnown load_limit p slowdown instances found → IsCompiled p slowdown instances n report notes
    → play.CanBeFed → HasOneRunWith n.cells → AreFirsts n.cells (filled n.cells 0) → CanBeFed n.cells p report.ins
compiled_fed p slowdown instances found n report notes k d feeds one begins =
    can_be_fed p slowdown (main_costs p instances) report.ins report.outs n d.laid d.circuit
    (told_laid p slowdown instances found n report notes k d) feeds one begins

-- its ports are those of a module, its memories are whole, and it has no more cells and outputs than are told
pub stream_ports : (p : ProgramTree) (slowdown : ℕ) (instances : List StFuncTree) (n between : Circuit) (report : ReportTree) (notes : List NoteTree)
    → IsCompiled p slowdown instances n report notes
    → IsStream n between report.slowdown report.latency report.ins report.outs → HavePorts between.cells between.outlets (length report.outs)
stream_ports p slowdown instances n between report notes d stream =
    have_ports p slowdown (main_costs p instances) report.ins report.outs n between d.circuit stream.input_ports stream.ports

pub stream_whole : (p : ProgramTree) (slowdown : ℕ) (instances : List StFuncTree) (n between : Circuit) (report : ReportTree) (notes : List NoteTree)
    → IsCompiled p slowdown instances n report notes
    → IsStream n between report.slowdown report.latency report.ins report.outs → AreWhole between.cells
stream_whole p slowdown instances n between report notes d stream = stream.whole d.circuit.whole

pub stream_large : (n between : Circuit) (report : ReportTree) → IsStream n between report.slowdown report.latency report.ins report.outs
    → 2500000 ≤ length between.cells + length between.outlets
    → 2500000 ≤ stream_cells n report.ins report.outs (report.latency / report.slowdown) + length n.outlets + 2
stream_large n between report stream many =
    omega (
      arith,
      many,
      stream.few,
      ap (λ (v : List Port). length v) stream.ports,
      length-map between.outlets (λ (o : Outlet). o.port),
      length-map n.outlets (λ (o : Outlet). o.port),
    )

-- the text is that of a stream
pub is_stream_text : (p : ProgramTree) (slowdown : ℕ) (instances : List StFuncTree) (n between : Circuit) (report : ReportTree) (notes : List NoteTree)
    (name text : List ℕ) → IsCompiled p slowdown instances n report notes
    → IsStream n between report.slowdown report.latency report.ins report.outs → CanBeFed n.cells p report.ins → IsListedAs report name between text
    → IsStreamText p slowdown instances name text
is_stream_text p slowdown instances n between report notes name text d stream fed listed =
    let clocks : report.slowdown ≡ slowdown = ap (λ (r : ReportTree). r.slowdown) d.reported in
    let late : report.latency ≡ (main_costs p instances).latency = ap (λ (r : ReportTree). r.latency) d.reported in
    record {
      circuit = n;
      report = report;
      notes = notes;
      compiled = d;
      between = between;
      stream = stream;
      streams = stream.streams p fed (subst (λ k. MakesBlocks n p k report.latency report.ins report.outs) (sym clocks)
          (subst (λ k. MakesBlocks n p slowdown k report.ins report.outs) (sym late) d.circuit.makes));
      stays = stream.stays;
      goes_on = stream.goes_on;
      listed = listed;
    }
