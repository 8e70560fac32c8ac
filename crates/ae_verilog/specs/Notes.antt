-- The comment lines within a module and the names of its nets, which tell where its cells come from.
use Rattle.std.specs.Prelude.{◌≡◌, ℕ, Bool, ◌&&◌, nat_le, nat_lt, List, ◌++◌, reverse, find, length, get_or, Option, Some, None, slice_get, codes, decimal, IsTrue, string_bytes, if◌then◌else◌}
use Rattle.std.specs.List.{list_all}
use Rattle.ae_sttype.specs.StTree.{StTree, st_tree}
use Rattle.ae_sttype.specs.TypeText.{st_text}
use Rattle.ae_netlist.specs.declared.cell.SizedCell.{SizedCell}
use Rattle.ae_netlist.specs.declared.cell.Outlet.{Outlet}
use Rattle.ae_vmodule.specs.ModuleTree.{ModuleTree}
use Rattle.ae_verilog.specs.NetlistModule.{netlist_module}
use Rattle.ae_verilog.specs.declared.notes.Note.{Note}
use Rattle.ae_verilog.specs.ReportLines.{is_clean}

-- a line of a program, the name and the layout of what it makes, and the number of its first cell
pub record NoteTree : Type 0 where
  pub cell : ℕ
  pub line : ℕ
  pub name : List ℕ
  pub layout : StTree

-- the tree of a note of the code
abbrev pub note_tree : Note → NoteTree
note_tree n = record { cell = n.cell; line = n.line; name = string_bytes n.name; layout = st_tree n.layout }

-- `  // line 6: b, SSeq 4 u8`
abbrev pub note_line : NoteTree → List ℕ
note_line n = codes "  // line " ++ (decimal n.line ++ (codes ": " ++ (n.name ++ (codes ", " ++ (st_text n.layout ++ codes "\n")))))

abbrev pub line_in : Option NoteTree → ℕ
line_in None = 0
line_in (Some n) = n.line

-- the line of a net: that of the last note whose cell is at most the net, and 0 before the first
abbrev pub line_of : List NoteTree → ℕ → ℕ
line_of notes net = line_in (find (λ (n : NoteTree). nat_le n.cell net) (reverse notes))

-- the same of each of so many cells; what is no cell has no line
abbrev pub lines_of : List NoteTree → (cells : ℕ) → ℕ → ℕ
lines_of notes cells net = if nat_lt net cells then line_of notes net else 0

-- the line that a table has for a net: 0, which is no line, past its end
abbrev pub table_line : List ℕ → ℕ → ℕ
table_line table net = get_or table net 0

-- the module of a netlist with such notes
abbrev pub noted_module : List NoteTree → List SizedCell → List Outlet → (outs : ℕ) → ModuleTree
noted_module notes cells outlets outs = netlist_module (lines_of notes (length cells)) cells outlets outs

-- printable ASCII, neither `%` nor `$`
abbrev pub is_printed : ℕ → Bool
is_printed b = nat_le 32 b && nat_lt b 127 && is_clean b

-- names of such bytes
abbrev pub ArePrinted : List NoteTree → Type 0
ArePrinted notes = (i : ℕ) (n : NoteTree) → slice_get notes i ≡ Some n → IsTrue (list_all is_printed n.name)
