use Rattle.std.proofs.Common.{◌≡◌, ◌++◌, map, drop}
use Rattle.ae_seq.specs.ProgramTree.{func_tree}
use Rattle.ae_rewrite.specs.StProgramTree.{st_func_tree}
use Rattle.ae_rewrite.specs.Sound.{item_layouts}
use Rattle.ae_verilog.specs.Notes.{note_tree}
use Rattle.ae_compile.specs.LineNotes.{result_notes}
use Rattle.ae_compile.proofs.notes.notes_of_items.Given as goal

abbrev pub invariant-loop-k : goal.invariant-loop-k
invariant-loop-k l =
    map note_tree l.notes.items ++ result_notes (item_layouts (st_func_tree l.fn.instance)) (func_tree l.fn.func) (drop l.k l.items) (drop l.k l.marks)
    ≡ result_notes (item_layouts (st_func_tree l.fn.instance)) (func_tree l.fn.func) l.items l.marks
