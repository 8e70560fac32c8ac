-- The first line of a program that does more than move words.
use Rattle.std.specs.Prelude.{ℕ, if◌then◌else◌, List, [], ◌∷◌, Option, None, Some, slice_get}
use Rattle.ae_seq.specs.ProgramTree.{NodeTree, FuncTree, ProgramTree}
use Rattle.ae_rewrite.specs.Interface.{main_of}
use Rattle.ae_trace.specs.Traces.{is_movement_op}

abbrev pub first_other : List NodeTree → Option ℕ
first_other [] = None
first_other (n ∷ ns) = if is_movement_op n.op then first_other ns else Some n.line

abbrev pub other_in : Option FuncTree → Option ℕ
other_in None = None
other_in (Some f) = first_other f.nodes

-- of the program function; a movement program has none
abbrev pub other_line : ProgramTree → Option ℕ
other_line p = other_in (slice_get p.funcs (main_of p))
