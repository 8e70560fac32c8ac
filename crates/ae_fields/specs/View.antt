-- What the parser's own values say.
use Rattle.std.specs.Prelude.{ℕ, List, map, Vec}
use Rattle.std.specs.Borrow.{Bor}
use Rattle.std.specs.declared.alloc.Global.{Global}
use Rattle.ae_word.specs.AtomTree.{AtomTree, atom_tree}
use Rattle.ae_word.specs.declared.atom.Atom.{Atom}
use Rattle.ae_seq.specs.ProgramTree.{OpTree, ParamTree, NodeTree, FuncTree, op_tree, param_tree, node_tree, func_tree}
use Rattle.ae_seq.specs.declared.program.Op.{Op}
use Rattle.ae_seq.specs.declared.program.Param.{Param}
use Rattle.ae_seq.specs.declared.program.Node.{Node}
use Rattle.ae_seq.specs.declared.program.Func.{Func}
use Rattle.ae_fields.specs.Cut.{fields}

-- an atom and what follows it
abbrev pub atom_rest : Atom × Bor (List ℕ) → AtomTree × List ℕ
atom_rest q = (atom_tree q.0, q.1.now)

-- a length and what follows it
abbrev pub length_rest : ℕ × Bor (List ℕ) → ℕ × List ℕ
length_rest q = (q.0, q.1.now)

-- numbers without their places
abbrev pub items_in : Vec ℕ Global → List ℕ
items_in v = v.items

-- an operator and the fields that follow it
abbrev pub op_rest : Op × Bor (List ℕ) → OpTree × List (List ℕ)
op_rest q = (op_tree q.0, fields q.1.now)

abbrev pub params_in : Vec Param Global → List ParamTree
params_in v = map param_tree v.items

abbrev pub nodes_in : Vec Node Global → List NodeTree
nodes_in v = map node_tree v.items

abbrev pub funcs_in : Vec Func Global → List FuncTree
funcs_in v = map func_tree v.items

abbrev pub halves_in : Bor (List ℕ) × Bor (List ℕ) → List ℕ × List ℕ
halves_in q = (q.0.now, q.1.now)
