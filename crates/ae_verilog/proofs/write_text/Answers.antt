use Rattle.std.proofs.Common.{◌<◌, ◌^◌, map, length, ap, sym, ◌∙◌}
use Rattle.std.proofs.lemmas.List.Elements.{All-map}
use Rattle.ae_verilog.specs.Notes.{NoteTree, note_tree, table_line}
use Rattle.ae_verilog.proofs.Steps.{text_steps}
use Rattle.ae_verilog.proofs.write_text.Goals as goal

pub returns-clause-text : goal.returns-clause-text
returns-clause-text c =
    let cells = c.cells-cells.result.now in
    let outlets = c.outlets-outlets.result.now in
    let long = c.len.ensures ∙ ap length (sym c.cells-cells.ensures) in
    rw (c.cells-cells.ensures, c.outlets-outlets.ensures) at
    (text_steps (table_line c.as_slice.result.now) c.args.name.now c.args.behind.now _
    (map note_tree c.args.notes.now) cells outlets c.args.outs _ _ _ _ _ _ _ _
    (rw long at (ap table_line c.as_slice.ensures.value ∙ c.in_ok-lines.ensures)) c.new-out.ensures.bytes c.in_ok-write_report.ensures.text
    c.in_ok-write.ensures.bytes c.in_ok-write_header.ensures.text
    c.in_ok-write_cells.ensures.text c.in_ok-write_outlets.ensures c.in_ok-write_edges.ensures c.in_ok-write-2.ensures.bytes)

pub returns-clause-inputs : goal.returns-clause-inputs
returns-clause-inputs c = rw c.cells-cells.ensures at c.in_ok-write_header.ensures.inputs

pub returns-clause-outputs : goal.returns-clause-outputs
returns-clause-outputs c = rw c.outlets-outlets.ensures at c.in_ok-write_header.ensures.outputs

pub returns-clause-numbers : goal.returns-clause-numbers
returns-clause-numbers c = record {
  slowdown = c.write_report.ensures.slowdown;
  latency = c.write_report.ensures.latency;
  muls = c.write_report.ensures.muls;
  load = c.write_report.ensures.load;
  lines = All-map (λ (n : NoteTree). n.line < 2 ^ 32) note_tree c.args.notes.now c.in_ok-write_cells.ensures.fits;
}
