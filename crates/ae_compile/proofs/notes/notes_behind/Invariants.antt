use Rattle.std.proofs.Common.{◌≡◌, ◌+◌, ◌++◌, map, drop}
use Rattle.ae_seq.specs.ProgramTree.{node_tree}
use Rattle.ae_rewrite.specs.StProgramTree.{st_func_tree}
use Rattle.ae_rewrite.specs.Sound.{item_layouts}
use Rattle.ae_verilog.specs.Notes.{note_tree}
use Rattle.ae_compile.specs.LineNotes.{node_notes}
use Rattle.ae_compile.proofs.notes.notes_behind.Given as goal

abbrev pub invariant-loop-j : goal.invariant-loop-j
invariant-loop-j l =
    (map note_tree l.notes.items ++ node_notes (item_layouts (st_func_tree l.fn.instance)) l.item (map node_tree (drop l.j l.nodes)) (drop l.j l.marks)
    ≡ node_notes (item_layouts (st_func_tree l.fn.instance)) l.fn.params (map node_tree l.nodes) l.marks)
    × (l.item ≡ l.fn.params + l.j)
