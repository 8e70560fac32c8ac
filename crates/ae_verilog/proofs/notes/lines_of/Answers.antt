use Rattle.std.proofs.Common.{◌≡◌, ℕ, List, length, map, drop, sym, subst, arith}
use Rattle.ae_verilog.specs.Notes.{note_tree, lines_of, table_line}
use Rattle.ae_verilog.proofs.NoteLines.{lines_are, front_is}
use Rattle.ae_verilog.proofs.notes.lines_of.Goals as goal

pub returns : goal.returns
returns c =
    let new = c.tell_lines.new.lines in
    let same = c.tell_lines.auto.lines in
    let value = c.as_mut_slice.ensures.value in
    let made = (c.in_ok-lines.ensures).len in
    let long : length new ≡ c.args.cells = omega (arith, same, made, c.as_mut_slice.ensures.len) in
    let whole : c.in_ok-lines.lines.len ≡ length new = omega (arith, same, made, c.as_mut_slice.ensures.len) in
    subst (λ (t : List ℕ). table_line t ≡ lines_of (map note_tree c.args.notes.now) c.args.cells)
    (sym (front_is new (drop (length new) c.in_ok-lines.lines.items) c.in_ok-lines.lines.len whole))
    (lines_are new (map note_tree c.args.notes.now) c.args.cells long (λ k h. c.tell_lines.ensures k (omega arith)))
