use Rattle.std.proofs.Common.{◌<◌, ◌^◌, Result, Ok, Err, OnOk, arith, subst}
use Rattle.ae_verilog.specs.declared.notes.Note.{Note}
use Rattle.ae_verilog.specs.Notes.{note_tree, table_line}
use Rattle.ae_verilog.specs.Text.{declaration_text}
use Rattle.ae_verilog.proofs.Joining.{first_more}
use Rattle.ae_verilog.proofs.NotedCells.{noted_more}
use Rattle.ae_verilog.proofs.cells.write_cells.Goals as goal

where_ok : {E : Type 0} (r : Result (Unit {0}) E) (P : Type 0) → P → OnOk r P
where_ok (Ok u) P p = p
where_ok (Err x) P p = tt

-- one more is written
pub loop-note-preserved : goal.loop-note-preserved
loop-note-preserved c = (
  noted_more note_tree (λ net sized. declaration_text (table_line c.args.names.now.lines.now) c.args.names.now.cells.now net sized.width sized.cell)
      c.args.names.now.cells.now c.loop-note.from _ c.loop-note.note-index c.args.notes.now c.note-item.result _ _ _ _
      c.loop-note-test.true c.note-item.is c.max-from.ensures c.in_ok-write_between.ensures c.in_ok-write_note.ensures.text c.loop-note.invariant.0,
  first_more (λ (n : Note). n.line < 2 ^ 32) c.args.notes.now c.loop-note.note-index c.note-item.result c.loop-note-test.true c.loop-note.invariant.1
      (subst (λ (n : Note). n.line < 2 ^ 32) c.note-item.is c.in_ok-write_note.ensures.fits),
)

pub returns-clause-fits : goal.returns-clause-fits
returns-clause-fits c = where_ok c.write_between-2.result _ (λ k d within. c.loop-note.invariant.1 k d (omega arith) within)
