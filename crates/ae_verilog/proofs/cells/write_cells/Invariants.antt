use Rattle.std.proofs.Common.{◌≡◌, ◌<◌, ◌^◌, ◌++◌, drop, map, string_bytes}
use Rattle.ae_verilog.specs.Notes.{note_tree, table_line}
use Rattle.ae_verilog.specs.Text.{declaration_text, noted}
use Rattle.ae_verilog.proofs.Joining.{OfFirst}
use Rattle.ae_verilog.proofs.cells.write_cells.Given as goal

abbrev pub invariant-loop-note : goal.invariant-loop-note
invariant-loop-note l =
    (string_bytes l.out ++ noted (λ net sized. declaration_text (table_line l.names.lines.now) l.names.cells.now net sized.width sized.cell) l.names.cells.now
    l.from (map note_tree (drop l.note-index l.notes))
    ≡ string_bytes l.fn.out ++ noted (λ net sized. declaration_text (table_line l.names.lines.now) l.names.cells.now net sized.width sized.cell)
    l.names.cells.now 0 (map note_tree l.notes))
    × OfFirst (λ note. note.line < 2 ^ 32) l.notes l.note-index
