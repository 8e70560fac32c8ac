-- The text of `check`: a line for each line of a program, with its number and the types that it gives.
use Rattle.std.specs.Prelude.{ℕ, ◌+◌, List, [], ◌∷◌, ◌++◌, length, flat_map, Option, Some, None, codes}
use Rattle.std.specs.Fmt.{decimal}
use Rattle.ae_seqtype.specs.SeqTree.{SeqTree}
use Rattle.ae_seqtype.specs.TypeText.{type_text}
use Rattle.ae_seq.specs.ProgramTree.{ParamTree, NodeTree, FuncTree, ProgramTree}
use Rattle.ae_seq.specs.Typing.{type_at}

abbrev pub item_text : Option SeqTree → List ℕ
item_text None = []
item_text (Some t) = type_text t

-- ` NAME:TYPE`
abbrev pub param_text : ParamTree → List ℕ
param_text q = (32 ∷ q.name ++ 58 ∷ []) ++ type_text q.type

-- `LINE fn NAME` and the parameters
abbrev pub function_line : FuncTree → List ℕ
function_line f = (((decimal f.line ++ codes " fn ") ++ f.name) ++ flat_map param_text f.params) ++ 10 ∷ []

-- `LINE NAME TYPE`
abbrev pub node_text : Option SeqTree → NodeTree → List ℕ
node_text t n = ((((decimal n.line ++ 32 ∷ []) ++ n.name) ++ 32 ∷ []) ++ item_text t) ++ 10 ∷ []

-- the lines of nodes, where the first is item i of function k
abbrev pub node_lines : ProgramTree → (k i : ℕ) → List NodeTree → List ℕ
node_lines p k i [] = []
node_lines p k i (n ∷ ns) = node_text (type_at p k i) n ++ node_lines p k (i + 1) ns

-- `LINE end` and the types of the results
abbrev pub result_text : Option SeqTree → List ℕ
result_text t = 32 ∷ item_text t

abbrev pub end_line_text : ProgramTree → (k : ℕ) → FuncTree → List ℕ
end_line_text p k f =
    ((decimal f.end_line ++ codes " end") ++ flat_map (λ i. result_text (type_at p k i)) f.results) ++ 10 ∷ []

-- the lines of functions, where the first has number k
abbrev pub func_text : ProgramTree → (k : ℕ) → FuncTree → List ℕ
func_text p k f = (function_line f ++ node_lines p k (length f.params) f.nodes) ++ end_line_text p k f

abbrev pub func_texts : ProgramTree → (k : ℕ) → List FuncTree → List ℕ
func_texts p k [] = []
func_texts p k (f ∷ fs) = func_text p k f ++ func_texts p (k + 1) fs

abbrev pub check_text : ProgramTree → List ℕ
check_text p = func_texts p 0 p.funcs
