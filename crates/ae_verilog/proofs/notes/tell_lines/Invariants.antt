use Rattle.std.proofs.Common.{◌≤◌, length}
use Rattle.ae_verilog.specs.Notes.{note_tree}
use Rattle.ae_verilog.proofs.NoteLines.{AreTold}
use Rattle.ae_verilog.proofs.notes.tell_lines.Given as goal

abbrev pub invariant-loop-left : goal.invariant-loop-left
invariant-loop-left l = (l.first ≤ length l.fn.lines) × (l.left ≤ length l.notes) × AreTold note_tree l.notes l.lines (length l.fn.lines) l.first l.left

abbrev pub decreases-loop-left : goal.decreases-loop-left
decreases-loop-left l = l.left
