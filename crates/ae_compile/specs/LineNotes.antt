-- What the comment lines of a module tell of the lines of its program.
use Rattle.std.specs.Prelude.{◌≡◌, ℕ, ◌+◌, true, false, List, [], ◌∷◌, length, Some, slice_get, if◌then◌else◌}
use Rattle.ae_seq.specs.ProgramTree.{NodeTree, FuncTree, ProgramTree}
use Rattle.ae_seq.specs.Formed.{all_name_bytes}
use Rattle.ae_sttype.specs.StTree.{StTree}
use Rattle.ae_rewrite.specs.StProgramTree.{StFuncTree}
use Rattle.ae_rewrite.specs.Sound.{item_layout, item_layouts}
use Rattle.ae_rewrite.specs.Interface.{main_of}
use Rattle.ae_netlist.specs.declared.cell.SizedCell.{SizedCell}
use Rattle.ae_ports.specs.Ports.{input_ports, streams_of}
use Rattle.ae_lower.specs.declared.sections.Section.{Section}
use Rattle.ae_lower.specs.Circuits.{last_of}
use Rattle.ae_lower.specs.Sections.{AreCovered, AreSections, IsSectionWithin}
use Rattle.ae_lower.specs.Stretches.{AreNodeCells}
use Rattle.ae_tidy.specs.Places.{AreMarks}
use Rattle.ae_trace.specs.Traces.{is_movement}
use Rattle.ae_verilog.specs.Notes.{NoteTree}
use Rattle.ae_print.specs.Printed.{item_names, name_at}

-- the names of nodes are of letters, digits and `_` alone
abbrev pub AllNamed : List NodeTree → Type 0
AllNamed [] = Unit {0}
AllNamed (n ∷ ns) = (all_name_bytes n.name ≡ true) × AllNamed ns

-- what is told of a node: its line, its name and its layout, and where its cells begin
abbrev pub node_note : (cell : ℕ) → NodeTree → StTree → NoteTree
node_note cell n t = record { cell = cell; line = n.line; name = n.name; layout = t }

-- the same of nodes, the first of which is item i, by the numbers of the cells before them
abbrev pub node_notes : (layouts : List StTree) (i : ℕ) → List NodeTree → (marks : List ℕ) → List NoteTree
node_notes layouts i [] ms = []
node_notes layouts i (n ∷ ns) [] = []
node_notes layouts i (n ∷ ns) (m ∷ ms) = node_note m n (item_layout layouts i) ∷ node_notes layouts (i + 1) ns ms

-- what is told of a result by itself: the end line, the name and the layout of its item, and where its cells begin
abbrev pub item_note : FuncTree → (item cell : ℕ) → StTree → NoteTree
item_note f i cell t = record { cell = cell; line = f.end_line; name = name_at (item_names f) i; layout = t }

abbrev pub result_notes : (layouts : List StTree) → FuncTree → (items : List ℕ) → (marks : List ℕ) → List NoteTree
result_notes layouts f [] ms = []
result_notes layouts f (i ∷ is) [] = []
result_notes layouts f (i ∷ is) (m ∷ ms) = item_note f i m (item_layout layouts i) ∷ result_notes layouts f is ms

-- of a program that only moves words there is a note for each result, and of others for each node
abbrev pub told_count : ProgramTree → FuncTree → ℕ
told_count p f = if is_movement p then length f.results else length f.nodes

abbrev pub told_notes : ProgramTree → FuncTree → (layouts : List StTree) → (marks : List ℕ) → List NoteTree
told_notes p f layouts marks =
    if is_movement p then result_notes layouts f f.results marks else node_notes layouts (length f.params) f.nodes marks

-- a number of cells for each
abbrev pub ArePlaced : ProgramTree → List SizedCell → (marks : List ℕ) → Type 0
ArePlaced p cells marks =
    (f : FuncTree) → slice_get p.funcs (main_of p) ≡ Some f → AreMarks (length cells) (told_count p f) marks

-- the cells of each node of a program that computes stand behind its mark
abbrev pub OwnCells : ProgramTree → List StFuncTree → List SizedCell → (marks : List ℕ) → Type 0
OwnCells p instances cells marks =
    is_movement p ≡ false → (s : StFuncTree) → slice_get instances (last_of instances) ≡ Some s
    → AreNodeCells instances (last_of instances) s cells (1 + length (input_ports (streams_of s.ins))) marks

-- each cell of a program that computes, behind the inputs, stands in a section of the program function or of one that it calls
pub record AreCellSections (p : ProgramTree) (instances : List StFuncTree) (cells : ℕ)
    (sections : List Section) : Type 0 where
  pub are : AreSections cells sections
  pub covered : is_movement p ≡ false → (s : StFuncTree) → slice_get instances (last_of instances) ≡ Some s
      → AreCovered (IsSectionWithin instances (last_of instances))
      (1 + length (input_ports (streams_of s.ins))) cells sections

-- the notes of the program function, in order, each where the cells of its line or its result begin
pub record AreLineNotes (p : ProgramTree) (instances : List StFuncTree) (s : StFuncTree) (cells : List SizedCell)
    (notes : List NoteTree) : Type 0 where
  pub func : FuncTree
  pub main : slice_get p.funcs (main_of p) ≡ Some func
  pub marks : List ℕ
  pub placed : AreMarks (length cells) (told_count p func) marks
  pub own : is_movement p ≡ false → AreNodeCells instances (last_of instances) s cells
      (1 + length (input_ports (streams_of s.ins))) marks
  pub are : notes ≡ told_notes p func (item_layouts s) marks
