-- The line at which a function has no schedule under a budget.
use Rattle.std.specs.Prelude.{ℕ, ◌+◌, ◌-◌, Bool, true, ◌&&◌, is_some, if◌then◌else◌, List, [], ◌∷◌, length, Option, Some, None, slice_get, unwrap_or}
use Rattle.ae_seq.specs.ProgramTree.{ProgramTree, FuncTree, NodeTree, ParamTree}
use Rattle.ae_seq.specs.Typing.{grown}
use Rattle.ae_sttype.specs.StTree.{StTree}
use Rattle.ae_rewrite.specs.LayoutRule.{lay_of}
use Rattle.ae_rewrite.specs.declared.calls.Call.{Call}
use Rattle.ae_rewrite.specs.Calls.{layout_at, called_by}

-- the first of two lines that is there
abbrev pub or_line : Option ℕ → Option ℕ → Option ℕ
or_line None o = o
or_line (Some l) o = Some l

-- ---- where `known` gives the failing line of each function above, under each budget

abbrev pub call_line : (known : ℕ → ℕ → Option ℕ) → Option Call → Option ℕ
call_line known None = None
call_line known (Some c) = known c.func c.budget

-- a line without a layout fails itself
abbrev pub unless_laid : Option StTree → (line : ℕ) → Option ℕ → Option ℕ
unless_laid None line later = Some line
unless_laid (Some s) line later = later

-- the failing line of a node, which is item i
abbrev pub node_line : ProgramTree → (known : ℕ → ℕ → Option ℕ) (func budget item : ℕ) → NodeTree → Option ℕ
node_line p known f clocks i n = unless_laid (layout_at p f clocks i) n.line (call_line known (called_by p f clocks n))

-- that of the first of these nodes that has one; they are item i and those after it
abbrev pub nodes_line : ProgramTree → (known : ℕ → ℕ → Option ℕ) (func budget item : ℕ) → List NodeTree → Option ℕ
nodes_line p known f clocks i [] = None
nodes_line p known f clocks i (n ∷ ns) =
    or_line (node_line p known f clocks i n) (nodes_line p known f clocks (i + 1) ns)

-- each parameter has a layout
abbrev pub params_laid : (budget : ℕ) → List ParamTree → Bool
params_laid clocks [] = true
params_laid clocks (q ∷ qs) = is_some (lay_of q.type clocks) && params_laid clocks qs

abbrev pub func_line : ProgramTree → (known : ℕ → ℕ → Option ℕ) (func budget : ℕ) → FuncTree → Option ℕ
func_line p known k clocks f =
    if params_laid clocks f.params then nodes_line p known k clocks (length f.params) f.nodes else Some f.line

-- ---- each function's failing line by its budget, from those of the functions above

abbrev pub no_line : ℕ → Option ℕ
no_line clocks = None

abbrev pub lines_in : List (ℕ → Option ℕ) → ℕ → ℕ → Option ℕ
lines_in known f clocks = unwrap_or (slice_get known f) no_line clocks

abbrev pub next_lines : ProgramTree → List (ℕ → Option ℕ) → FuncTree → ℕ → Option ℕ
next_lines p known f clocks = func_line p (lines_in known) (length known) clocks f

-- the failing line of function number f under the budget, or none
unfoldable pub failing : ProgramTree → (func budget : ℕ) → Option ℕ
failing p f clocks = lines_in (grown (next_lines p) [] p.funcs) f clocks

-- that of a program with this slowdown
abbrev pub failing_line : ProgramTree → (slowdown : ℕ) → Option ℕ
failing_line p slowdown = failing p (length p.funcs - 1) slowdown
