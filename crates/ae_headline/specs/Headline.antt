-- The headline: what the text that `build S` writes with Ok is.
use Rattle.std.specs.Prelude.{◌≡◌, ℕ, ◌+◌, ◌*◌, ◌≤◌, ◌⊎◌, false, List, ◌∷◌, length, map, take, Some, slice_get}
use Rattle.ae_seqtype.specs.SeqTree.{SeqTree}
use Rattle.ae_seqtype.specs.ValueTree.{ValueTree}
use Rattle.ae_seq.specs.ProgramTree.{ProgramTree, FuncTree, NodeTree}
use Rattle.ae_seq.specs.Meaning.{mean}
use Rattle.ae_sttype.specs.StTree.{StTree}
use Rattle.ae_netlist.specs.Circuit.{Circuit}
use Rattle.ae_netlist.specs.Counts.{count_of, is_input, is_mul}
use Rattle.ae_netlist.specs.Runs.{HasOneRun}
use Rattle.ae_rewrite.specs.LayoutRule.{lay_of}
use Rattle.ae_rewrite.specs.Interface.{AreValues, main_of, parameter_types}
use Rattle.ae_rewrite.specs.Blocks.{MakesBlocks}
use Rattle.ae_ports.specs.Ports.{input_cell, input_ports, outlet_port, output_ports}
use Rattle.ae_ops.specs.Blocks.{stream_of}
use Rattle.ae_netlist.specs.declared.cell.Port.TheVariants.{Reset}
use Rattle.ae_verilog.specs.ReportLines.{ReportTree}
use Rattle.ae_verilog.specs.Notes.{NoteTree}
use Rattle.ae_print.specs.Printed.{item_names, name_at}
use Rattle.ae_says.specs.Says.{Says}
use Rattle.ae_headline.specs.Listing.{listing}

-- the first cells are the reset and an input for each column of each parameter, and there are no other inputs; an output for
-- each column of each result; all of them named and sized by the layouts
pub record HasPorts (n : Circuit) (ins outs : List StTree) : Type 0 where
  pub inputs : take (1 + length (input_ports (map stream_of ins))) n.cells ≡ map input_cell (record { port = Reset; width = 1 } ∷ input_ports (map stream_of ins))
  pub no_others : count_of is_input n.cells ≡ 1 + length (input_ports (map stream_of ins))
  pub outputs : map (outlet_port n.cells) n.outlets ≡ output_ports (map stream_of outs)

-- the netlist does what the program means, block after block, with the layouts and the latency that the report tells, by as many
-- multipliers as it tells, and within its load
pub record Computes (n : Circuit) (p : ProgramTree) (r : ReportTree) : Type 0 where
  pub types : List SeqTree
  pub answers : (vs : List ValueTree) → AreValues (parameter_types p) vs → AreValues types (mean p vs)
  pub ins : map (λ t. lay_of t r.slowdown) (parameter_types p) ≡ map Some r.ins
  pub outs : map (λ t. lay_of t r.slowdown) types ≡ map Some r.outs
  pub ports : HasPorts n r.ins r.outs
  pub one_run : HasOneRun n.cells
  pub makes : MakesBlocks n p r.slowdown r.latency r.ins r.outs
  pub products : count_of is_mul n.cells ≡ r.muls
  pub small : length n.cells ≤ 16 * r.load + 1 + length (input_ports (map stream_of r.ins))

-- the notes tell each node of a function, or each result at its end line, in order, by their lines and names
abbrev pub AreNotesIn : FuncTree → List (ℕ × List ℕ) → Type 0
AreNotesIn f told =
    (told ≡ map {B = ℕ × List ℕ} (λ (n : NodeTree). (n.line, n.name)) f.nodes)
    ⊎ (told ≡ map {B = ℕ × List ℕ} (λ i. (f.end_line, name_at (item_names f) i)) f.results)

abbrev pub AreNotes : ProgramTree → List NoteTree → Type 0
AreNotes p notes = (f : FuncTree) → slice_get p.funcs (main_of p) ≡ Some f → AreNotesIn f (map {B = ℕ × List ℕ} (λ (n : NoteTree). (n.line, n.name)) notes)

-- the text is the listing of such a netlist, for the program that the input says
pub record IsProgramListing (part : List ℕ) (slowdown : ℕ) (text : List ℕ) : Type 0 where
  pub program : ProgramTree
  pub says : Says part program
  pub report : ReportTree
  pub at : report.slowdown ≡ slowdown
  pub no_enable : report.enable ≡ false
  pub circuit : Circuit
  pub computes : Computes circuit program report
  pub notes : List NoteTree
  pub noted : AreNotes program notes
  pub listed : text ≡ listing report notes circuit (length report.outs)
